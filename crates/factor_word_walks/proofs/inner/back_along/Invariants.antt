-- What is left of the word from here leads where the whole leads: five letters a turn, then those that are left.
use mathlib.Core.Path.{◌≡◌}
use Rattle.factor_word_walks.specs.Walks.{back_along}
use Rattle.factor_word_walks.proofs.inner.back_along.Given as goal

abbrev pub invariant-loop-left : goal.invariant-loop-left
invariant-loop-left l = back_along l.left l.s l.n l.count l.x.0 l.at ≡ back_along l.initial.left l.s l.n l.count l.initial.x.0 l.initial.at

abbrev pub decreases-loop-left : goal.decreases-loop-left
decreases-loop-left l = l.left
