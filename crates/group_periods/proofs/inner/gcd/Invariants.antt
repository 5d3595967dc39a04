-- The divisor of what is left is that of both.
use mathlib.Core.Path.{◌≡◌}
use Rattle.theory_radix.specs.Divisors.{gcd}
use Rattle.group_periods.proofs.inner.gcd.Given as goal

abbrev pub invariant-loop-y : goal.invariant-loop-y
invariant-loop-y l = gcd l.x l.y ≡ gcd l.a l.b

abbrev pub decreases-loop-y : goal.decreases-loop-y
decreases-loop-y l = l.y
