-- One law for each case.
use Rattle.egg.proofs.Refusing.{handed_on}
use mathlib.Core.Path.{◌∙◌}
use native.Mathlib.Omega.{arith}
use Rattle.subgroup_sides.proofs.Generators.{scaled_refused, scaled_is}
use Rattle.subgroup_sides.proofs.inner.scaled.Goals as goal

pub overflow_mul-result : goal.overflow_mul-result
overflow_mul-result c = record { fits = omega (arith, c.requires _ c.in_ok-y.was) }

pub overflow_cast-result : goal.overflow_cast-result
overflow_cast-result c = record { fits = omega (arith, c.requires _ c.in_ok-y.was) }

pub returns-in_err-y : goal.returns-in_err-y
returns-in_err-y c = handed_on c.from_residual.ensures ∙ scaled_refused c.args.k c.in_err-y.was

pub returns : goal.returns
returns c = scaled_is c.args.k c.in_ok-y.was
