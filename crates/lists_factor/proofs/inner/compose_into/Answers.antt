-- All at once, or one after another.
use Rattle.lists.proofs.Places.{all_worked}
use borrow.Author.Rules.{rules}
use Rattle.lists_factor.proofs.inner.compose_into.Goals as goal

pub returns-then-side_by_side : goal.returns-then-side_by_side
returns-then-side_by_side c = all_worked (c.side_by_side.ensures (c.if-side_by_side.true)) (search rules)
