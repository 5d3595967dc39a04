-- What is left to read from here decides as the whole word does: each turn takes off the letters of one row.
use mathlib.Core.Path.{◌≡◌}
use Rattle.factor_word_letters.specs.Spell.{readable}
use Rattle.factor_word_letters.proofs.inner.readable.Given as goal

abbrev pub invariant-loop-left : goal.invariant-loop-left
invariant-loop-left l = readable l.left l.s l.n l.count l.at ≡ readable l.initial.left l.s l.n l.count l.initial.at

abbrev pub decreases-loop-left : goal.decreases-loop-left
decreases-loop-left l = l.left
