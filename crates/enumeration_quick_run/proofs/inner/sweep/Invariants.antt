use Prim.Native.Nat.{◌<◌}
use mathlib.Core.Path.{◌≡◌}
use lib.ListN.{length}
use Rattle.enumeration_quick_run.specs.Sweeps.{sweep_from}
use Rattle.enumeration_quick_run.proofs.inner.sweep.Given as goal

abbrev pub invariant-loop-at : goal.invariant-loop-at
invariant-loop-at l = (sweep_from l.left l.n l.orders l.room l.at l.t ≡ sweep_from l.initial.left l.n l.orders l.room l.initial.at l.initial.t) × ((length l.t ≡ length l.initial.t) × (l.at.generator < l.n))

abbrev pub decreases-loop-at : goal.decreases-loop-at
decreases-loop-at l = l.left
