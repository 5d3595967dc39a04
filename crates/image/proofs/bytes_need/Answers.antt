-- The bounds on n and N keep the product small.
use Prim.Native.Nat.{◌+◌, ◌*◌}
use native.Mathlib.Omega.{arith}
use Rattle.image.proofs.Heads.{product_fits, square_fits}
use Rattle.image.proofs.bytes_need.Goals as goal

pub overflow_mul-result-2 : goal.overflow_mul-result-2
overflow_mul-result-2 c = omega (arith, square_fits c.ranges.n.fits)

pub overflow_add-result : goal.overflow_add-result
overflow_add-result c = omega (arith, square_fits c.ranges.n.fits)

pub overflow_mul-result-3 : goal.overflow_mul-result-3
overflow_mul-result-3 c = omega (arith, product_fits c.args.count (32 * c.args.n * c.args.n + 100) c.ranges.count.fits (omega (arith, square_fits c.ranges.n.fits)))
