-- Both ways the product is what composing the two comes to; where it is refused, the count says nothing.
use native.Mathlib.Omega.{arith}
use mathlib.Core.Path.{sym, ◌∙◌}
use Rattle.lists_walks.proofs.inner.number.Goals as goal

pub returns-then-x-count : goal.returns-then-x-count
returns-then-x-count c = c.product_number-x.ensures

pub returns-in-Err : goal.returns-in-Err
returns-in-Err c = λ h. absurd (omega arith)

pub returns-in-Ok : goal.returns-in-Ok
returns-in-Ok c = λ h. sym c.compose_with_care.ensures ∙ c.in-Ok.is
