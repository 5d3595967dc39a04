-- Four bytes for each number of the stretch.
use Prim.Native.Nat.{◌+◌, ◌*◌}
use native.Mathlib.Omega.{arith}
use Rattle.image.proofs.Heads.{product_fits}
use Rattle.image.proofs.table_bytes.Goals as goal

pub overflow_mul-result : goal.overflow_mul-result
overflow_mul-result c = omega (arith, product_fits c.args.count (2 * c.args.n + 4) c.ranges.count.fits (omega arith))
