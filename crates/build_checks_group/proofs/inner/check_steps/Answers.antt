-- The first verdict decides `and_then`.
use Rattle.egg.proofs.Refusing.{handed_on}
use mathlib.Core.Path.{◌∙◌}
use Rattle.build_checks_group.specs.Lefts.{check_steps}
use Rattle.build_checks_group.proofs.inner.check_steps.Goals as goal

pub returns-in_err-identity_row : goal.returns-in_err-identity_row
unfolding check_steps
returns-in_err-identity_row c = handed_on c.from_residual.ensures ∙ rw (← c.identity_row.ensures, c.in_err-identity_row.was)

pub returns : goal.returns
unfolding check_steps
returns c = c.spelled.ensures ∙ rw (← c.identity_row.ensures, c.in_ok-identity_row.was)
