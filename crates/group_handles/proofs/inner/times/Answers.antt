-- Both numbers have at most 33 and 32 bits, so that the product fits; then it is capped.
use Rattle.group_handles.proofs.Caps.{cap_small, cap_large}
use mathlib.Core.Path.{sym}
use native.Mathlib.Nat.{mul-le-mul}
use native.Mathlib.Omega.{arith}
use Prim.Native.Nat.{◌≤◌}
use Rattle.group_handles.proofs.inner.times.Goals as goal

pub overflow_mul-q : goal.overflow_mul-q
overflow_mul-q c = let k : c.args.n ≤ 4294967295 = omega (arith, c.ranges.n.fits) in omega (arith, mul-le-mul c.requires k)

pub returns-then-q-le4294967295 : goal.returns-then-q-le4294967295
returns-then-q-le4294967295 c = sym (cap_small c.if-q-le4294967295.true)

pub returns-else-q-le4294967295 : goal.returns-else-q-le4294967295
returns-else-q-le4294967295 c = sym (cap_large c.if-q-le4294967295.false)
