-- The words that an accepted factor records are the first of all. Order 11: "no word that reaches the element is shorter, and among those of the same length
-- none comes earlier by generator number, compared from the first."
use Rattle.std.specs.Prelude.{ℕ, ◌≤◌, ◌<◌, ◌≡◌, List, length}
use Rattle.egg.specs.declared.Factor.{Factor}
use Rattle.theory.specs.Words.{Word, walk}
use Rattle.theory.specs.WordOrder.{Lex}
use Rattle.theory.specs.Appearance.{recorded}
use Rattle.factor_laws.specs.Accepted.{factor_step, factor_word}

-- The word that the factor records for an element is the one that is read from its steps alone; no word that leads to the element is shorter, and of those of
-- the same length none comes earlier by generator number, compared from the first.
pub record FirstWords (t : List ℕ) (f : Factor) : Type 0 where
  pub word_is : {e : ℕ} → e < f.elements → factor_word t f e ≡ recorded f.generators (factor_step t f) e
  pub shortest : {u : List ℕ} → Word f.generators u → length (factor_word t f (walk (factor_step t f) 0 u)) ≤ length u
  pub none_earlier : {u : List ℕ} → Word f.generators u → length u ≡ length (factor_word t f (walk (factor_step t f) 0 u))
      → ¬ (Lex u (factor_word t f (walk (factor_step t f) 0 u)))
