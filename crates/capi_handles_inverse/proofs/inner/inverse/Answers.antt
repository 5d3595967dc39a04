-- A product of one handle is asked as the factor is. Else what the pass showed decides the refusals, and has the answer.
use Rattle.egg.proofs.Refusing.{handed_on}
use mathlib.Core.Path.{refl, ◌∙◌}
use native.Mathlib.Omega.{arith}
use Rattle.capi_handles.proofs.OneHandle.{inverse_alone}
use Rattle.capi_handles_inverse.proofs.Answering.{inverse_refused, inverse_lost, inverse_small, inverse_found}
use borrow.Author.Rules.{rules}
use Rattle.capi_handles_inverse.proofs.inner.inverse.Goals as goal

pub returns-then-count-eq1 : goal.returns-then-count-eq1
returns-then-count-eq1 c = inverse_alone (c.args.table.now) (c.args.l.now) (c.args.count) (c.if-count-eq1.true) (c.handle_at.ensures) (c.args.a) (c.inverse.ensures)

pub returns-in_err-admit_seen : goal.returns-in_err-admit_seen
returns-in_err-admit_seen c = handed_on c.from_residual.ensures ∙ inverse_refused (c.invert_digits-p.ensures) (search rules) (c.admit_seen.ensures) (c.in_err-admit_seen.was)

pub returns-then-not-p : goal.returns-then-not-p
returns-then-not-p c = inverse_lost (c.invert_digits-p.ensures) (search rules) (c.admit_seen.ensures) (c.in_ok-admit_seen.was) (c.if-not-p.true) refl

pub overflow_cast-result : goal.overflow_cast-result
overflow_cast-result c = omega (arith, inverse_small (c.invert_digits-p.ensures) (search rules) (c.admit_seen.ensures) (c.in_ok-admit_seen.was) (c.if-not-p.false))

pub returns : goal.returns
returns c = inverse_found (c.invert_digits-p.ensures) (search rules) (c.admit_seen.ensures) (c.in_ok-admit_seen.was) (c.if-not-p.false)
