use mathlib.Core.Path.{refl, ◌∙◌}
use borrow.Author.Rules.{rules}
use Rattle.image_walk.proofs.WalkLaws.{letter_none, letter_wrong, letter_right_lem}
use Rattle.image_walk.proofs.inner.letters_below.Goals as goal

pub loop-g-init : goal.loop-g-init
loop-g-init c = refl

pub returns-then-n-g : goal.returns-then-n-g
returns-then-n-g c = letter_wrong c.args.n c.args.word.now c.loop-g.g-index c.loop-g-test.true refl (search rules) ∙ c.loop-g.invariant

pub loop-g-preserved : goal.loop-g-preserved
loop-g-preserved c = letter_right_lem c.args.n c.args.word.now c.loop-g.g-index c.loop-g-test.true refl c.if-n-g.false ∙ c.loop-g.invariant

pub returns : goal.returns
returns c = letter_none c.args.n c.args.word.now c.loop-g.g-index c.loop-g-test.false ∙ c.loop-g.invariant
