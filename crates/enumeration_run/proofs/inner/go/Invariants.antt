use Prim.Native.Nat.{◌<◌}
use mathlib.Core.Path.{◌≡◌}
use lib.ListN.{length}
use Rattle.enumeration_run.specs.Run.{runs}
use Rattle.enumeration_run.proofs.inner.go.Given as goal

abbrev pub invariant-loop-at : goal.invariant-loop-at
invariant-loop-at l = (runs l.left l.n l.orders l.room l.at l.t l.w ≡ runs l.initial.left l.n l.orders l.room l.initial.at l.initial.t l.initial.w) × ((length l.t ≡ length l.initial.t) × ((length l.w ≡ length l.initial.w) × (l.at.generator < l.n)))

abbrev pub decreases-loop-at : goal.decreases-loop-at
decreases-loop-at l = l.left
