-- What the letters that are left come to, all of them come to.
use Prim.Native.Nat.{◌-◌}
use Rattle.egg.specs.Answers.{Reached}
use Rattle.factor_word_walks.specs.Letters.{LettersBack}
use Rattle.factor_word_walks.proofs.inner.letters_back.Given as goal

abbrev pub invariant-loop : goal.invariant-loop
invariant-loop l = (r : Reached) → LettersBack l.s l.n l.count l.x.0 l.c (l.letters - l.counter) r → LettersBack l.s l.n l.count l.initial.x.0 l.initial.c l.letters r
