use mathlib.Core.Path.{refl, ◌∙◌}
use native.Mathlib.Omega.{arith}
use Rattle.factor_word_letters.proofs.Letters.{readable_end, readable_out, readable_no, readable_more, readable_last}
use Rattle.factor_word_letters.proofs.inner.readable.Goals as goal

pub loop-left-init : goal.loop-left-init
loop-left-init c = refl

pub returns-then-count-at : goal.returns-then-count-at
returns-then-count-at c = readable_out c.args.s.now c.args.n c.args.count c.loop-left.at c.loop-left-test.true c.if-count-at.true ∙ c.loop-left.invariant

pub returns-then-not-cell_within : goal.returns-then-not-cell_within
returns-then-not-cell_within c = readable_no c.args.s.now c.args.n c.args.count c.loop-left.at c.loop-left-test.true c.if-count-at.false c.hop-c.ensures c.cell_within.ensures c.if-not-cell_within.true ∙ c.loop-left.invariant

pub returns-then-left-le5 : goal.returns-then-left-le5
returns-then-left-le5 c = readable_last c.args.s.now c.args.n c.args.count c.loop-left.at c.loop-left-test.true c.if-count-at.false c.hop-c.ensures c.cell_within.ensures c.if-not-cell_within.false c.if-left-le5.true ∙ c.loop-left.invariant

pub loop-left-smaller : goal.loop-left-smaller
loop-left-smaller c = omega (arith, c.loop-left-test.true)

pub loop-left-preserved : goal.loop-left-preserved
loop-left-preserved c = readable_more c.args.s.now c.args.n c.args.count c.loop-left.at c.loop-left-test.true c.if-count-at.false c.hop-c.ensures c.cell_within.ensures c.if-not-cell_within.false ∙ c.loop-left.invariant

pub returns : goal.returns
returns c = readable_end c.args.s.now c.args.n c.args.count c.loop-left.at c.loop-left-test.false ∙ c.loop-left.invariant
