-- The invariant is `Writing`: what is not reached yet is as it was.
use Rattle.lists.proofs.Passes.{Writing}
use Rattle.lists_powers.specs.Rounds.{kept_at}
use Rattle.lists_powers.proofs.inner.keep.Given as goal

abbrev pub invariant-loop-i : goal.invariant-loop-i
invariant-loop-i l = Writing (kept_at l.ks l.j l.ys l.initial.xs) l.initial.xs l.i l.xs
