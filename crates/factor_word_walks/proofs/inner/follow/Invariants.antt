-- What is left to walk from here leads where the whole word leads: each turn takes one letter off.
use mathlib.Core.Path.{◌≡◌}
use lib.ListN.{drop}
use Rattle.factor_word_walks.specs.Walks.{follow}
use Rattle.factor_word_walks.proofs.inner.follow.Given as goal

abbrev pub invariant-loop-i : goal.invariant-loop-i
invariant-loop-i l = follow l.s l.n l.count l.x.0 (drop l.i l.word) ≡ follow l.s l.n l.count l.initial.x.0 l.word
