-- The invariant: the generators that are left, on the work as it is, give the verdict and the work that all give. A turn is one step of `lefts`.
use Prim.Native.Nat.{◌-◌}
use mathlib.Core.Path.{◌≡◌}
use Rattle.build_checks_group.specs.Lefts.{lefts}
use Rattle.build_checks_group.proofs.inner.check12.Given as goal

abbrev pub invariant-loop-s : goal.invariant-loop-s
invariant-loop-s l = lefts (l.n - l.s) l.t l.n l.count l.w l.s ≡ lefts l.n l.t l.n l.count l.initial.w 0
