use borrow.Rule.Slice.PartMut.{same_len_mid, mid_len}
use Prim.Native.Nat.{◌-◌}
use mathlib.Core.Path.{refl, ◌∙◌}
use native.Mathlib.Omega.{arith}
use borrow.Author.Rules.{rules}
use Rattle.lists.proofs.Parts.{parts_alike, part_short}
use Rattle.lists_powers.proofs.Chunks.{powering, powering_all, powering_next}
use Rattle.lists_powers.proofs.inner.powers.Goals as goal

pub loop-i-init : goal.loop-i-init
loop-i-init c = (powering, refl)

pub chunk-requires : goal.chunk-requires
chunk-requires c = (parts_alike (c.args.exponents.now) (c.args.a.now) (c.loop-i.i) (c.chunk_end-end.result) (omega (arith, c.requires.0, c.chunk_end-end.ensures.within)) (c.chunk_end-end.ensures.within), (parts_alike (c.loop-i.results) (c.args.a.now) (c.loop-i.i) (c.chunk_end-end.result) (omega (arith, c.requires.1, c.loop-i.invariant.1, c.chunk_end-end.ensures.within)) (c.chunk_end-end.ensures.within), part_short (c.args.a.now) (c.chunk_end-end.ensures)))

pub shape_of-results-then-not-chunk : goal.shape_of-results-then-not-chunk
shape_of-results-then-not-chunk c = same_len_mid (c.loop-i.i) (c.chunk_end-end.result - c.loop-i.i) (c.loop-i.results) (c.chunk.new.results) (c.chunk.auto.results) ∙ c.loop-i.invariant.1

pub returns-then-not-chunk : goal.returns-then-not-chunk
returns-then-not-chunk c = λ h. search rules

pub loop-i-smaller : goal.loop-i-smaller
loop-i-smaller c = omega arith

pub loop-i-preserved : goal.loop-i-preserved
loop-i-preserved c = (powering_next (c.loop-i.invariant.0) (c.chunk_end-end.ensures) (omega (arith, c.requires.1, c.loop-i.invariant.1)) (c.chunk.ensures (c.if-not-chunk.false)) (c.chunk.auto.results ∙ mid_len (c.loop-i.i) (c.chunk_end-end.result) (c.loop-i.results) (omega (arith, c.requires.1, c.loop-i.invariant.1, c.chunk_end-end.ensures.within))), same_len_mid (c.loop-i.i) (c.chunk_end-end.result - c.loop-i.i) (c.loop-i.results) (c.chunk.new.results) (c.chunk.auto.results) ∙ c.loop-i.invariant.1)

pub shape_of-results : goal.shape_of-results
shape_of-results c = c.loop-i.invariant.1

pub returns : goal.returns
returns c = λ h. powering_all (c.loop-i.invariant.0) (search rules)
