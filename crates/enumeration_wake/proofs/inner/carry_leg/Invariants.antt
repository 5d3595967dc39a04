use Rattle.std.proofs.Common.{◌≡◌, ◌<◌, ◌≤◌, length}
use Rattle.enumeration_wake.specs.Waking.{state, wakes_all}
use Rattle.enumeration_rows.specs.Rows.{list_at}
use Rattle.enumeration_rows.specs.declared.inner.SideOfGap.{SideOfGap}
use Rattle.enumeration_wake.proofs.inner.carry_leg.Given as goal

abbrev pub invariant-loop-left : goal.invariant-loop-left
invariant-loop-left l = ((side : SideOfGap) → l.list ≡ list_at l.n l.after side → wakes_all l.left l.n l.at side (state l.t l.w l.top) ≡ wakes_all l.initial.left l.n l.initial.at side (state l.t l.initial.w l.top)) × ((l.left ≤ l.initial.left) × ((length l.w ≡ length l.initial.w) × (l.at < 4294967296)))

abbrev pub decreases-loop-left : goal.decreases-loop-left
decreases-loop-left l = l.left
