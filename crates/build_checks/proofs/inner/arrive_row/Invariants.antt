-- The invariant: counting the arrivals that are left gives what counting all gives. A turn is one step of `arrive_row`.
use Prim.Native.Nat.{◌-◌}
use mathlib.Core.Path.{◌≡◌}
use Rattle.build_checks.specs.Checks.{arrive_row}
use Rattle.build_checks.proofs.inner.arrive_row.Given as goal

abbrev pub invariant-loop-g : goal.invariant-loop-g
invariant-loop-g l = arrive_row (l.n - l.g) l.t l.n l.e.0 l.w l.g ≡ arrive_row l.n l.t l.n l.e.0 l.initial.w 0
