-- The sum without the last two steps is below the whole, which fits.
use Prim.Native.Nat.{◌/◌, ◌%◌}
use native.Mathlib.Omega.{arith}
use Rattle.subgroup.proofs.Carries.{inner_small}
use Rattle.subgroup.proofs.inner.replaced.Goals as goal

pub overflow_mul-result : goal.overflow_mul-result
overflow_mul-result c = let a = c.args in record { fits = omega (arith, inner_small (a.x.0 / a.stride / a.n) a.m a.w.0 a.stride (a.x.0 % a.stride) c.requires.0 c.requires.1.1) }

pub overflow_add-result : goal.overflow_add-result
overflow_add-result c = let a = c.args in record { fits = omega (arith, inner_small (a.x.0 / a.stride / a.n) a.m a.w.0 a.stride (a.x.0 % a.stride) c.requires.0 c.requires.1.1) }
