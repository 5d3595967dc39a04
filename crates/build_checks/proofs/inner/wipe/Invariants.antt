-- The invariant: wiping what is left gives what wiping all gives. A turn is one step of `wiped`, by what `put` ensures.
use Prim.Native.Nat.{◌-◌}
use mathlib.Core.Path.{◌≡◌}
use Rattle.build_checks.specs.Checks.{wiped}
use Rattle.build_checks.proofs.inner.wipe.Given as goal

abbrev pub invariant-loop-e : goal.invariant-loop-e
invariant-loop-e l = wiped (l.count - l.e) l.w l.e ≡ wiped l.count l.initial.w 0
