-- The bounds on n and N keep the product small.
use Rattle.image.proofs.WriteLaws.{size_small}
use native.Mathlib.Omega.{arith}
use Rattle.image.proofs.size.Goals as goal

pub overflow_mul-result-2 : goal.overflow_mul-result-2
overflow_mul-result-2 c = omega (arith, size_small c.requires.0 c.requires.1)

pub overflow_add-result : goal.overflow_add-result
overflow_add-result c = omega (arith, size_small c.requires.0 c.requires.1)
