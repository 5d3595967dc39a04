-- The invariant is `Largest`: none of the exponents so far is larger.
use Rattle.lists_powers.specs.Rounds.{Largest}
use Rattle.lists_powers.proofs.inner.largest.Given as goal

abbrev pub invariant-loop-i : goal.invariant-loop-i
invariant-loop-i l = Largest l.ks l.i l.most
