-- The invariant is `Working`: the results so far are the single calls' numbers, and what is left gives the answer of the whole.
use Rattle.lists.proofs.Places.{Working}
use Rattle.lists_factor.specs.Each.{inverse_at}
use mathlib.Core.Path.{◌≡◌}
use lib.ListN.{length}
use Rattle.lists_factor.proofs.inner.inverse_in_turn.Given as goal

abbrev pub invariant-loop-i : goal.invariant-loop-i
invariant-loop-i l = Working (length l.a) (inverse_at l.table l.f l.a) l.i l.results × (length l.results ≡ length l.initial.results)
