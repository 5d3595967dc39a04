-- The invariant is `Writing`: each sum that has been passed has its digit, times the stride.
use Rattle.lists.proofs.Passes.{Writing}
use lib.ListN.{get_or}
use Prim.Native.Nat.{◌+◌, ◌*◌}
use Rattle.lists_group.proofs.inner.chunks.add.Given as goal

abbrev pub invariant-loop-i : goal.invariant-loop-i
invariant-loop-i l = Writing (λ j. get_or l.initial.sums j 0 + l.stride * get_or l.digits j 0) l.initial.sums l.i l.sums
