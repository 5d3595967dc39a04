use Prim.Native.Nat.{◌<◌}
use mathlib.Core.Path.{◌≡◌}
use Rattle.enumeration_fill.specs.Walk.{walk_from}
use Rattle.enumeration_quick_loops.proofs.inner.loop_end.Given as goal

abbrev pub invariant-loop-left : goal.invariant-loop-left
invariant-loop-left l = (walk_from l.left l.t l.n l.e l.here l.there ≡ walk_from l.initial.left l.t l.n l.initial.e l.here l.there) × (l.e < 4294967295)

abbrev pub decreases-loop-left : goal.decreases-loop-left
decreases-loop-left l = l.left
