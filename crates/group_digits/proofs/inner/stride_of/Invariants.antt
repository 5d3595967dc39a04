-- The stride of the next factor is this one times its size, and none is above the count.
use Prim.Native.Nat.{◌≤◌}
use mathlib.Core.Path.{◌≡◌}
use Rattle.group_handles.specs.Handles.{handles, sizes}
use Rattle.theory_radix.specs.Radix.{stride}
use Rattle.group_digits.proofs.inner.stride_of.Given as goal

abbrev pub invariant-loop-i : goal.invariant-loop-i
invariant-loop-i l = (l.i ≤ l.f) × (l.s ≡ stride (sizes (handles l.g)) l.i)
