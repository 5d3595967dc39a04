-- The first refusal decides each `then_checked`; the last answer is `check12`'s.
use Rattle.egg.proofs.Refusing.{handed_on}
use Rattle.build_checks.specs.Checks.{check_rest}
use Rattle.build_checks.proofs.inner.check_rest.Goals as goal

pub returns-in_err-inverses_right : goal.returns-in_err-inverses_right
unfolding check_rest
returns-in_err-inverses_right c = rw (handed_on c.from_residual.ensures, ← c.inverses_right.ensures, c.in_err-inverses_right.was)

pub returns-in_err-check_steps : goal.returns-in_err-check_steps
unfolding check_rest
returns-in_err-check_steps c = rw (handed_on c.from_residual-in_err-check_steps.ensures, ← c.inverses_right.ensures, c.in_ok-inverses_right.was, ← c.check_steps.ensures, c.in_err-check_steps.was)

pub returns : goal.returns
unfolding check_rest
returns c = rw (← c.inverses_right.ensures, c.in_ok-inverses_right.was, ← c.check_steps.ensures, c.in_ok-check_steps.was, ← c.check12.ensures)
