-- The invariant: filling what is left, on the work as it is, gives what filling all gives. A turn is one step of `fill_left`.
use Prim.Native.Nat.{◌-◌}
use mathlib.Core.Path.{◌≡◌}
use Rattle.build_checks_group.specs.Lefts.{fill_left}
use Rattle.build_checks_group.proofs.inner.fill_left.Given as goal

abbrev pub invariant-loop-x : goal.invariant-loop-x
invariant-loop-x l = fill_left (l.count - l.x) l.t l.n l.s.0 l.w l.x ≡ fill_left l.count l.t l.n l.s.0 l.initial.w 0
