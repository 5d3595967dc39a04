-- The invariant: the places before this one are right.
use Rattle.lists.specs.Worked.{AllRight}
use Rattle.lists_factor.specs.Each.{inverse_at}
use mathlib.Core.Path.{◌≡◌}
use lib.ListN.{length}
use Rattle.lists_factor.proofs.inner.inverses_found.Given as goal

abbrev pub invariant-loop-i : goal.invariant-loop-i
invariant-loop-i l = AllRight l.i (inverse_at l.table l.f l.a) l.results × (length l.results ≡ length l.initial.results)
