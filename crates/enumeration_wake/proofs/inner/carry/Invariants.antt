use Rattle.enumeration_wake.specs.Waking.{state, wakes_all}
use Rattle.enumeration_wake.specs.Carrying.{wakes_rest}
use Rattle.egg.specs.Table.{still_left}
use Rattle.std.proofs.Common.{◌≡◌, ◌<◌, ◌≤◌, true, length}
use Rattle.enumeration_wake.proofs.inner.carry.Given as goal

abbrev pub invariant-loop-leg : goal.invariant-loop-leg
invariant-loop-leg l = (wakes_rest l.leg l.n l.side (state l.t l.w l.top) ≡ wakes_all l.count l.n l.first l.side (state l.t l.initial.w l.top)) × ((l.leg.left ≤ l.count) × ((length l.w ≡ length l.initial.w) × (l.leg.more ≡ true → l.after.left < l.after.right)))

abbrev pub decreases-loop-leg : goal.decreases-loop-leg
decreases-loop-leg l = still_left l.leg.more l.leg.left
