-- All at once, or one after another.
use Rattle.lists.proofs.Places.{all_worked}
use borrow.Author.Rules.{rules}
use Rattle.lists_factor.proofs.inner.powi_into.Goals as goal

pub returns-then-in_step : goal.returns-then-in_step
returns-then-in_step c = all_worked (c.in_step.ensures (c.if-in_step.true)) (search rules)
