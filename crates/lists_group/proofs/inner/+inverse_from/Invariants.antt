-- The measure is how many places are left.
use Prim.Native.Nat.{◌-◌}
use lib.ListN.{length}
use Rattle.lists_group.proofs.inner.+inverse_from.Given as goal

abbrev pub decreases-inverse_from : goal.decreases-inverse_from
decreases-inverse_from l = length l.a.now - l.i
