-- The product of the count and the width fits, and the comparison says what is asked.
use native.Mathlib.Omega.{arith}
use Rattle.factor_compose.proofs.Numbers.{rows_small}
use borrow.Author.Tests.{leb-true}
use Rattle.factor_compose.proofs.inner.rows_within.Goals as goal

pub overflow_mul-result : goal.overflow_mul-result
overflow_mul-result c = omega (arith, rows_small c.args.n c.width.ensures c.ranges.count.fits c.ranges.n.fits)

pub returns : goal.returns
returns c = λ h. rw (← c.width.ensures) (leb-true _ _ h)
