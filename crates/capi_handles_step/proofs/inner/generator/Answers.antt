-- As the step, from the identity.
use Rattle.egg.proofs.Refusing.{handed_on}
use mathlib.Core.Path.{◌∙◌}
use native.Mathlib.Omega.{arith}
use Rattle.capi_handles.proofs.OneHandle.{generator_alone}
use Rattle.capi_handles_step.proofs.Stepping.{generated_refused, generated_small, generated_found}
use Rattle.capi_handles_step.proofs.Answering.{generator_refused, generator_fine, generator_usable}
use Rattle.capi_handles_step.proofs.inner.generator.Goals as goal

pub returns-then-count-eq1 : goal.returns-then-count-eq1
returns-then-count-eq1 c = generator_alone (c.args.table.now) (c.args.l.now) (c.args.count) (c.if-count-eq1.true) (c.handle_at.ensures) (c.args.x) (c.generator.ensures)

pub returns-in_err-admit_seen : goal.returns-in_err-admit_seen
returns-in_err-admit_seen c = handed_on c.from_residual.ensures ∙ generator_refused (c.find-p.ensures) (c.admit_seen.ensures) (c.in_err-admit_seen.was)

pub overflow_mul-p : goal.overflow_mul-p
overflow_mul-p c = let U = generator_usable (c.find-p.ensures) (c.admit_seen.ensures) (c.in_ok-admit_seen.was) in omega (arith, U.small)

pub overflow_cast-s : goal.overflow_cast-s
overflow_cast-s c = let U = generator_usable (c.find-p.ensures) (c.admit_seen.ensures) (c.in_ok-admit_seen.was) in omega (arith, U.fits)

pub overflow_cast-own : goal.overflow_cast-own
overflow_cast-own c = omega (arith, c.well_formed.1.1.1.0.1.1.0.1)

pub overflow_sub-own : goal.overflow_sub-own
overflow_sub-own c = let U = generator_usable (c.find-p.ensures) (c.admit_seen.ensures) (c.in_ok-admit_seen.was) in omega (arith, U.passed)

pub part-requires : goal.part-requires
part-requires c = ((generator_usable (c.find-p.ensures) (c.admit_seen.ensures) (c.in_ok-admit_seen.was)).ready _ (c.handle_at-h.ensures)).fits

pub overflow_cast-own-2 : goal.overflow_cast-own-2
overflow_cast-own-2 c = omega (arith, c.well_formed.1.1.1.0.1.1.0.1)

pub returns-in_err-y : goal.returns-in_err-y
returns-in_err-y c = handed_on c.from_residual-in_err-y.ensures ∙ (generator_fine (c.find-p.ensures) (c.admit_seen.ensures) (c.in_ok-admit_seen.was) (generated_refused ((generator_usable (c.find-p.ensures) (c.admit_seen.ensures) (c.in_ok-admit_seen.was)).ready _ (c.handle_at-h.ensures)) (c.part.ensures) (c.next.ensures) (c.in_err-y.was)))

pub overflow_mul-result : goal.overflow_mul-result
overflow_mul-result c = omega (arith, generated_small ((generator_usable (c.find-p.ensures) (c.admit_seen.ensures) (c.in_ok-admit_seen.was)).ready _ (c.handle_at-h.ensures)) (c.part.ensures) (c.next.ensures) (c.in_ok-y.was))

pub returns : goal.returns
returns c = generator_fine (c.find-p.ensures) (c.admit_seen.ensures) (c.in_ok-admit_seen.was) (generated_found ((generator_usable (c.find-p.ensures) (c.admit_seen.ensures) (c.in_ok-admit_seen.was)).ready _ (c.handle_at-h.ensures)) (c.part.ensures) (c.next.ensures) (c.in_ok-y.was))
