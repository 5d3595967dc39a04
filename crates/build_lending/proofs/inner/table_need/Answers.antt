-- A product of a 32-bit number and a row's width fits.
use native.Mathlib.Omega.{arith}
use Rattle.egg.proofs.Laws.{product_small}
use Rattle.build_lending.proofs.inner.table_need.Goals as goal

pub overflow_mul-result : goal.overflow_mul-result
overflow_mul-result c = omega (arith, product_small c.args.room c.width.result c.ranges.room.fits (omega arith))

pub returns : goal.returns
returns c = rw c.width.ensures
