-- A product of one factor is asked as the factor is; else the walk's own contract is the answer.
use mathlib.Core.Path.{◌∙◌}
use Rattle.group.proofs.OneFactor.{one_walk}
use Rattle.group.proofs.walk.Goals as goal

pub returns-then-alone : goal.returns-then-alone
returns-then-alone c = c.walk.ensures ∙ one_walk c.args.table.now c.args.g _ (c.alone.ensures c.if-alone.true).counted (c.alone.ensures c.if-alone.true).listed c.args.from c.args.word.now
