use mathlib.Core.Path.{refl, ◌∙◌}
use Rattle.image_cells.specs.Cells.{halves}
use Rattle.image_walk.proofs.WalkLaws.{follow_end, follow_wrong, follow_on}
use Rattle.image_walk.proofs.inner.follow.Goals as goal

pub loop-g-init : goal.loop-g-init
loop-g-init c = refl

pub returns-then-count-y : goal.returns-then-count-y
returns-then-count-y c = follow_wrong (halves c.args.rows.now) c.args.n c.args.count c.loop-g.x c.args.word.now c.loop-g.g-index c.loop-g-test.true refl c.stored-y.ensures c.if-count-y.true ∙ c.loop-g.invariant

pub loop-g-preserved : goal.loop-g-preserved
loop-g-preserved c = follow_on (halves c.args.rows.now) c.args.n c.args.count c.loop-g.x c.args.word.now c.loop-g.g-index c.loop-g-test.true refl c.stored-y.ensures c.if-count-y.false ∙ c.loop-g.invariant

pub returns : goal.returns
returns c = follow_end (halves c.args.rows.now) c.args.n c.args.count c.loop-g.x c.args.word.now c.loop-g.g-index c.loop-g-test.false ∙ c.loop-g.invariant
