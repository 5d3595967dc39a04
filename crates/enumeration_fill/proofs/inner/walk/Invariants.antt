use Rattle.std.proofs.Common.{◌≡◌}
use Rattle.egg.specs.Table.{still_left}
use Rattle.enumeration_fill.specs.Walk.{onward}
use Rattle.enumeration_fill.proofs.inner.walk.Given as goal

abbrev pub invariant-loop-leg : goal.invariant-loop-leg
invariant-loop-leg l = onward l.t l.n l.here l.there l.leg ≡ onward l.t l.n l.here l.there l.initial.leg

abbrev pub decreases-loop-leg : goal.decreases-loop-leg
decreases-loop-leg l = still_left l.leg.more l.leg.left
