-- The invariant is `Raised`: the powers by the exponents without the bits that are left.
use Prim.Native.Nat.{◌≤◌}
use mathlib.Core.Path.{◌≡◌}
use lib.ListN.{length}
use Rattle.lists_powers.specs.Rounds.{Raised}
use Rattle.lists_powers.proofs.inner.rounds.Given as goal

abbrev pub invariant-loop-j : goal.invariant-loop-j
invariant-loop-j l = Raised l.s l.n l.count l.bs l.ks l.j l.xs × ((l.j ≤ 32) × ((length l.xs ≡ length l.initial.xs) × ((length l.ys ≡ length l.initial.ys) × (length l.ms ≡ length l.initial.ms))))
