-- The invariant is `Powering`: the powers at the places so far. A chunk's part goes back to its place.
use Prim.Native.Nat.{◌-◌}
use mathlib.Core.Path.{◌≡◌}
use lib.ListN.{length}
use Rattle.lists_powers.proofs.Chunks.{Powering}
use Rattle.lists_powers.proofs.inner.powers.Given as goal

abbrev pub invariant-loop-i : goal.invariant-loop-i
invariant-loop-i l = Powering l.s l.n l.count l.a l.exponents l.i l.results × (length l.results ≡ length l.initial.results)

abbrev pub decreases-loop-i : goal.decreases-loop-i
decreases-loop-i l = length l.a - l.i
