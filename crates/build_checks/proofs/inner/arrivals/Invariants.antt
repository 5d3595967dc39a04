-- The invariant: the rows that are left give what all rows give. A turn is one step of `arrivals`.
use Prim.Native.Nat.{◌-◌}
use mathlib.Core.Path.{◌≡◌}
use Rattle.build_checks.specs.Checks.{arrivals}
use Rattle.build_checks.proofs.inner.arrivals.Given as goal

abbrev pub invariant-loop-e : goal.invariant-loop-e
invariant-loop-e l = arrivals (l.count - l.e) l.t l.n l.w l.e ≡ arrivals l.count l.t l.n l.initial.w 0
