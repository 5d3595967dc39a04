use Rattle.enumeration_wake.specs.Waking.{state, wakes_all}
use lib.ListN.{length}
use mathlib.Core.Path.{◌≡◌}
use Prim.Native.Nat.{◌<◌}
use Rattle.enumeration_facts.proofs.inner.wake_all.Given as goal

abbrev pub invariant-loop-left : goal.invariant-loop-left
invariant-loop-left l = (wakes_all l.left l.n l.at l.side (state l.t l.w l.top) ≡ wakes_all l.initial.left l.n l.initial.at l.side (state l.initial.t l.initial.w l.initial.top)) × ((length l.t ≡ length l.initial.t) × ((length l.w ≡ length l.initial.w) × (l.at < 4294967296)))

abbrev pub decreases-loop-left : goal.decreases-loop-left
decreases-loop-left l = l.left
