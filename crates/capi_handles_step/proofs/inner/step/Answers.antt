-- A product of one handle is asked as the factor is. Else what the pass showed decides the refusals, and the factor that it found has the step.
use Rattle.egg.proofs.Refusing.{handed_on}
use mathlib.Core.Path.{◌∙◌}
use native.Mathlib.Omega.{arith}
use Rattle.capi_handles.proofs.OneHandle.{step_alone}
use Rattle.capi_handles_step.proofs.Stepping.{reached_fits, reached_refused, reached_found}
use Rattle.capi_handles_step.proofs.Answering.{step_refused, step_fine, step_usable}
use Rattle.capi_handles_step.proofs.inner.step.Goals as goal

pub returns-then-count-eq1 : goal.returns-then-count-eq1
returns-then-count-eq1 c = step_alone (c.args.table.now) (c.args.l.now) (c.args.count) (c.if-count-eq1.true) (c.handle_at.ensures) (c.args.e) (c.args.x) (c.step.ensures)

pub returns-in_err-admit_seen : goal.returns-in_err-admit_seen
returns-in_err-admit_seen c = handed_on c.from_residual.ensures ∙ step_refused (c.find-p.ensures) (c.args.e.0) (c.well_formed.1.1.1.0.1.1.0.1) (c.admit_seen.ensures) (c.in_err-admit_seen.was)

pub overflow_mul-p : goal.overflow_mul-p
overflow_mul-p c = let U = step_usable (c.find-p.ensures) (c.args.e.0) (c.well_formed.1.1.1.0.1.1.0.1) (c.admit_seen.ensures) (c.in_ok-admit_seen.was) in omega (arith, U.small)

pub overflow_cast-s : goal.overflow_cast-s
overflow_cast-s c = let U = step_usable (c.find-p.ensures) (c.args.e.0) (c.well_formed.1.1.1.0.1.1.0.1) (c.admit_seen.ensures) (c.in_ok-admit_seen.was) in omega (arith, U.fits)

pub digit-d-requires : goal.digit-d-requires
digit-d-requires c = let R = (step_usable (c.find-p.ensures) (c.args.e.0) (c.well_formed.1.1.1.0.1.1.0.1) (c.admit_seen.ensures) (c.in_ok-admit_seen.was)).ready _ (c.handle_at-h.ensures) in (R.strides, R.some)

pub overflow_cast-own : goal.overflow_cast-own
overflow_cast-own c = omega (arith, c.well_formed.1.1.1.1.0.1.1.0.1)

pub overflow_sub-own : goal.overflow_sub-own
overflow_sub-own c = let U = step_usable (c.find-p.ensures) (c.args.e.0) (c.well_formed.1.1.1.0.1.1.0.1) (c.admit_seen.ensures) (c.in_ok-admit_seen.was) in omega (arith, U.passed)

pub part-requires : goal.part-requires
part-requires c = ((step_usable (c.find-p.ensures) (c.args.e.0) (c.well_formed.1.1.1.0.1.1.0.1) (c.admit_seen.ensures) (c.in_ok-admit_seen.was)).ready _ (c.handle_at-h.ensures)).fits

pub overflow_cast-own-2 : goal.overflow_cast-own-2
overflow_cast-own-2 c = omega (arith, c.well_formed.1.1.1.1.0.1.1.0.1)

pub returns-in_err-y : goal.returns-in_err-y
returns-in_err-y c = handed_on c.from_residual-in_err-y.ensures ∙ (step_fine (c.find-p.ensures) (c.args.e.0) (c.well_formed.1.1.1.0.1.1.0.1) (c.admit_seen.ensures) (c.in_ok-admit_seen.was) (reached_refused ((step_usable (c.find-p.ensures) (c.args.e.0) (c.well_formed.1.1.1.0.1.1.0.1) (c.admit_seen.ensures) (c.in_ok-admit_seen.was)).ready _ (c.handle_at-h.ensures)) (c.digit-d.ensures) (c.part.ensures) (c.next.ensures) (c.in_err-y.was)))

pub replaced-requires : goal.replaced-requires
replaced-requires c = reached_fits ((step_usable (c.find-p.ensures) (c.args.e.0) (c.well_formed.1.1.1.0.1.1.0.1) (c.admit_seen.ensures) (c.in_ok-admit_seen.was)).ready _ (c.handle_at-h.ensures)) (c.digit-d.ensures) (c.part.ensures) (c.next.ensures) (c.in_ok-y.was)

pub returns : goal.returns
returns c = step_fine (c.find-p.ensures) (c.args.e.0) (c.well_formed.1.1.1.0.1.1.0.1) (c.admit_seen.ensures) (c.in_ok-admit_seen.was) (reached_found ((step_usable (c.find-p.ensures) (c.args.e.0) (c.well_formed.1.1.1.0.1.1.0.1) (c.admit_seen.ensures) (c.in_ok-admit_seen.was)).ready _ (c.handle_at-h.ensures)) (c.digit-d.ensures) (c.part.ensures) (c.next.ensures) (c.in_ok-y.was) (c.replaced.ensures))
