-- The invariant is `Writing`: the first i numbers are those of the other list.
use Rattle.lists.proofs.Passes.{Writing}
use lib.ListN.{get_or}
use Rattle.lists.proofs.inner.copy_front.Given as goal

abbrev pub invariant-loop-i : goal.invariant-loop-i
invariant-loop-i l = Writing (λ j. get_or l.from j 0) l.initial.out l.i l.out
