use Rattle.std.proofs.Common.{◌≡◌, ◌≤◌}
use Rattle.enumeration_fill.specs.Walk.{walk_from}
use Rattle.enumeration_fill.proofs.inner.walk_leg.Given as goal

abbrev pub invariant-loop-left : goal.invariant-loop-left
invariant-loop-left l = (walk_from l.left l.t l.n l.e l.here l.there ≡ walk_from l.initial.left l.t l.n l.initial.e l.here l.there) × (l.left ≤ l.initial.left)

abbrev pub decreases-loop-left : goal.decreases-loop-left
decreases-loop-left l = l.left
