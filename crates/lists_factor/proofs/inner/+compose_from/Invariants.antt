-- The measure is how many places are left.
use Prim.Native.Nat.{◌-◌}
use lib.ListN.{length}
use Rattle.lists_factor.proofs.inner.+compose_from.Given as goal

abbrev pub decreases-compose_from : goal.decreases-compose_from
decreases-compose_from l = length l.a.now - l.i
