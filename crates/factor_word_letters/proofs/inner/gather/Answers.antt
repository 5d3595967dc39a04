use mathlib.Core.Path.{sym, ◌∙◌}
use native.Mathlib.Omega.{arith}
use Rattle.egg.proofs.Rooms.{false_true}
use Rattle.factor_word_letters.proofs.Letters.{readable_out, readable_no, gathering, gathers_on, gathers_end}
use Rattle.factor_word_letters.proofs.inner.gather.Goals as goal

pub loop-left-init : goal.loop-left-init
loop-left-init c = gathering c.args.s.now c.args.n c.args.count c.args.e.0 c.args.len c.args.held.now

pub shape_of-held-then-count-at : goal.shape_of-held-then-count-at
shape_of-held-then-count-at c = c.loop-left.invariant.kept

pub returns-then-count-at : goal.returns-then-count-at
returns-then-count-at c = let i = c.loop-left in (readable_out _ _ _ i.at c.loop-left-test.true c.if-count-at.true ∙ i.invariant.reads, λ h. absurd (false_true h))

pub shape_of-held-then-not-cell_within : goal.shape_of-held-then-not-cell_within
shape_of-held-then-not-cell_within c = c.loop-left.invariant.kept

pub returns-then-not-cell_within : goal.returns-then-not-cell_within
returns-then-not-cell_within c = let i = c.loop-left in (readable_no _ _ _ i.at c.loop-left-test.true c.if-count-at.false c.hop-five.ensures c.cell_within.ensures c.if-not-cell_within.true ∙ i.invariant.reads, λ h. absurd (false_true h))

pub overflow_cast-left : goal.overflow_cast-left
overflow_cast-left c = omega (arith, c.loop-left.invariant.fewer, c.ranges.len.fits)

pub put_five-requires : goal.put_five-requires
put_five-requires c = omega (arith, c.loop-left.invariant.fewer, c.loop-left.invariant.kept, c.requires, c.loop-left-test.true)

pub shape_of-held-then-left-le5 : goal.shape_of-held-then-left-le5
shape_of-held-then-left-le5 c = c.put_five.auto.held ∙ c.loop-left.invariant.kept

pub returns-then-left-le5 : goal.returns-then-left-le5
returns-then-left-le5 c = gathers_end (gathers_on c.loop-left.invariant c.loop-left-test.true c.if-count-at.false c.hop-five.ensures (sym c.cell_within.ensures ∙ c.if-not-cell_within.false) c.put_five.ensures c.put_five.auto.held) (omega (arith, c.if-left-le5.true))

pub loop-left-smaller : goal.loop-left-smaller
loop-left-smaller c = omega (arith, c.loop-left-test.true)

pub loop-left-preserved : goal.loop-left-preserved
loop-left-preserved c = gathers_on c.loop-left.invariant c.loop-left-test.true c.if-count-at.false c.hop-five.ensures (sym c.cell_within.ensures ∙ c.if-not-cell_within.false) c.put_five.ensures c.put_five.auto.held

pub shape_of-held : goal.shape_of-held
shape_of-held c = c.loop-left.invariant.kept

pub returns : goal.returns
returns c = gathers_end c.loop-left.invariant c.loop-left-test.false
