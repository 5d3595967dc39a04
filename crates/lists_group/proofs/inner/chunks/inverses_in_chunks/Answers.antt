use borrow.Rule.Slice.PartMut.{mid_len, same_len_mid}
use Rattle.lists.proofs.Places.{none_yet, all_places}
use Rattle.lists_group.proofs.Chunks.{next_chunk, inverse_places}
use Rattle.egg.proofs.Rooms.{false_true}
use borrow.Author.Rules.{rules}
use mathlib.Core.Path.{refl, sym, ◌∙◌}
use native.Mathlib.Omega.{arith}
use Prim.Native.Nat.{◌-◌}
use Rattle.lists_group.proofs.inner.chunks.inverses_in_chunks.Goals as goal

pub loop-at-init : goal.loop-at-init
loop-at-init c = (none_yet, (omega arith, refl))

pub slice_bounds-inverse_chunk-start : goal.slice_bounds-inverse_chunk-start
slice_bounds-inverse_chunk-start c = omega (arith, c.chunk_end-end.ensures.on, c.chunk_end-end.ensures.within)

pub slice_bounds-inverse_chunk-end : goal.slice_bounds-inverse_chunk-end
slice_bounds-inverse_chunk-end c = omega (arith, c.chunk_end-end.ensures.on, c.chunk_end-end.ensures.within)

pub slice_bounds-inverse_chunk-start-in-loop-at : goal.slice_bounds-inverse_chunk-start-in-loop-at
slice_bounds-inverse_chunk-start-in-loop-at c = omega (arith, c.chunk_end-end.ensures.on, c.chunk_end-end.ensures.within, c.requires.1, c.loop-at.invariant.1.1)

pub slice_bounds-inverse_chunk-end-in-loop-at : goal.slice_bounds-inverse_chunk-end-in-loop-at
slice_bounds-inverse_chunk-end-in-loop-at c = omega (arith, c.chunk_end-end.ensures.on, c.chunk_end-end.ensures.within, c.requires.1, c.loop-at.invariant.1.1)

pub inverse_chunk-requires : goal.inverse_chunk-requires
inverse_chunk-requires c = let x = mid_len c.loop-at.at c.chunk_end-end.result c.args.a.now c.chunk_end-end.ensures.within in
    let z = mid_len c.loop-at.at c.chunk_end-end.result c.loop-at.results (omega (arith, c.chunk_end-end.ensures.within, c.requires.1, c.loop-at.invariant.1.1)) in
    (c.requires.0, (z ∙ sym x, omega (arith, x, c.chunk_end-end.ensures.short)))

pub shape_of-results-then-not-inverse_chunk : goal.shape_of-results-then-not-inverse_chunk
shape_of-results-then-not-inverse_chunk c = same_len_mid c.loop-at.at (c.chunk_end-end.result - c.loop-at.at) c.loop-at.results c.inverse_chunk.new.results c.inverse_chunk.auto.results ∙ c.loop-at.invariant.1.1

pub returns-then-not-inverse_chunk : goal.returns-then-not-inverse_chunk
returns-then-not-inverse_chunk c = λ h. absurd (false_true h)

pub loop-at-smaller : goal.loop-at-smaller
loop-at-smaller c = omega (arith, c.chunk_end-end.ensures.on, c.chunk_end-end.ensures.within)

pub loop-at-preserved : goal.loop-at-preserved
loop-at-preserved c = let x = mid_len c.loop-at.at c.chunk_end-end.result c.args.a.now c.chunk_end-end.ensures.within in
    let z = mid_len c.loop-at.at c.chunk_end-end.result c.loop-at.results (omega (arith, c.chunk_end-end.ensures.within, c.requires.1, c.loop-at.invariant.1.1)) in
    (next_chunk c.loop-at.at c.chunk_end-end.result c.loop-at.results c.inverse_chunk.new.results (omega (arith, c.requires.1, c.loop-at.invariant.1.1, c.loop-at.invariant.1.0)) x (c.inverse_chunk.auto.results ∙ z) (inverse_places c.args.table.now c.args.g c.loop-at.at (c.chunk_end-end.result - c.loop-at.at) c.args.a.now) c.loop-at.invariant.0 (c.inverse_chunk.ensures c.if-not-inverse_chunk.false), (c.chunk_end-end.ensures.within, same_len_mid c.loop-at.at (c.chunk_end-end.result - c.loop-at.at) c.loop-at.results c.inverse_chunk.new.results c.inverse_chunk.auto.results ∙ c.loop-at.invariant.1.1))

pub shape_of-results : goal.shape_of-results
shape_of-results c = c.loop-at.invariant.1.1

pub returns : goal.returns
returns c = λ h. all_places c.loop-at.invariant.0 (search rules)
