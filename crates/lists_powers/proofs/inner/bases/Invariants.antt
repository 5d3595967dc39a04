-- The invariant is `Bases`, over the places so far.
use mathlib.Core.Path.{◌≡◌}
use lib.ListN.{length}
use Rattle.lists_powers.specs.Rounds.{Bases}
use Rattle.lists_powers.proofs.inner.bases.Given as goal

abbrev pub invariant-loop-i : goal.invariant-loop-i
invariant-loop-i l = Bases l.s l.n l.count l.a l.exponents l.i l.bs l.ks × ((length l.bs ≡ length l.initial.bs) × (length l.ks ≡ length l.initial.ks))
