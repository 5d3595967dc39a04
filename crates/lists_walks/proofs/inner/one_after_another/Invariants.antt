-- The places before i are right.
use Prim.Native.Nat.{ℕ, ◌≤◌, ◌<◌}
use mathlib.Core.Path.{◌≡◌}
use lib.ListN.{length}
use Rattle.lists_walks.specs.Lanes.{LanesReady, RightAt}
use Rattle.lists_walks.proofs.inner.one_after_another.Given as goal

abbrev pub invariant-loop-i : goal.invariant-loop-i
invariant-loop-i l = (l.i ≤ length l.a) × (LanesReady l.s l.n l.count l.a l.b l.results × ((length l.results ≡ length l.initial.results) × ((j : ℕ) → j < l.i → RightAt l.s l.n l.count l.a l.b l.results j)))
