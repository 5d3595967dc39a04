-- The number that was found, or the careful answer.
use mathlib.Core.Path.{sym}
use Rattle.factor_compose.proofs.inner.conjugate_elements.Goals as goal

pub returns-then-x-count : goal.returns-then-x-count
returns-then-x-count c = sym (c.conjugate_number-x.ensures c.if-x-count.true)
