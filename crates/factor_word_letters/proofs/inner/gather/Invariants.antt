-- What is left to read from here decides as the whole word does, and what is left to write gives the whole word.
use Rattle.factor_word_letters.proofs.Letters.{Gathering}
use Rattle.factor_word_letters.proofs.inner.gather.Given as goal

abbrev pub invariant-loop-left : goal.invariant-loop-left
invariant-loop-left l = Gathering l.s l.n l.count l.initial.at l.initial.left l.initial.held l.held l.at l.left

abbrev pub decreases-loop-left : goal.decreases-loop-left
decreases-loop-left l = l.left
