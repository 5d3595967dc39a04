-- The product fits: an element's width is small, and the room has 32 bits.
use native.Mathlib.Omega.{arith}
use Rattle.egg.proofs.Laws.{product_small}
use Rattle.build_lending.proofs.inner.work_need.Goals as goal

pub overflow_mul-result : goal.overflow_mul-result
overflow_mul-result c = omega (arith, product_small c.args.room c.work_width.result c.ranges.room.fits c.work_width.ensures.small)

pub returns : goal.returns
returns c = rw c.work_width.ensures.at
