-- The loop keeps what has been taken since it began. Each turn there is one place less, or the lane has more than five letters to go and the loop ends.
use Prim.Native.Nat.{◌+◌, ◌*◌, ◌-◌}
use mathlib.Core.Path.{◌≡◌}
use lib.ListN.{length}
use Rattle.lists_walks.specs.Lanes.{LanesReady, Took}
use Rattle.lists_walks.proofs.inner.settle.Given as goal

abbrev pub invariant-loop-lane : goal.invariant-loop-lane
invariant-loop-lane l = LanesReady l.s l.n l.count l.a l.b l.results × ((length l.results ≡ length l.initial.results) × Took l.s l.n l.count l.a l.b l.initial.lane l.initial.next l.initial.results l.lane l.next l.results)

abbrev pub decreases-loop-lane : goal.decreases-loop-lane
decreases-loop-lane l = 7 * (length l.a - l.next) + (6 - l.lane.left)
