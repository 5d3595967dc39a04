-- The products fit because n is a byte.
use mathlib.Core.Path.{refl}
use native.Mathlib.Omega.{arith}
use borrow.Author.Rules.{rules}
use Rattle.egg.proofs.Laws.{square}
use Rattle.egg.proofs.inner.work_width.Goals as goal

pub overflow_mul-result-2 : goal.overflow_mul-result-2
overflow_mul-result-2 c = omega (arith, square c.args.n (search rules))

pub overflow_add-result : goal.overflow_add-result
overflow_add-result c = omega (arith, square c.args.n (search rules))

pub returns : goal.returns
returns c = record { at = refl; small = omega (arith, square c.args.n (search rules)) }
