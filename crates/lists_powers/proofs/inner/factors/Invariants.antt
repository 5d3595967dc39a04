-- The invariant is `Writing`, over the places so far.
use Rattle.lists_powers.specs.Rounds.{factor_at}
use Rattle.lists.proofs.Passes.{Writing}
use Rattle.lists_powers.proofs.inner.factors.Given as goal

abbrev pub invariant-loop-i : goal.invariant-loop-i
invariant-loop-i l = Writing (factor_at l.bs l.ks l.j) l.initial.ms l.i l.ms
