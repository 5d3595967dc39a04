-- What a part of a walk back does: the letters that stand in one number are walked at a time. What the whole walk comes to is `back_by`.
use Rattle.std.specs.Prelude.{ℕ, ◌+◌, ◌≡◌, List}
use Rattle.egg.specs.Answers.{Reached}
use Rattle.build_word_cells.specs.Hops.{without}
use Rattle.factor_word_walks.specs.Walks.{back_by}
use Rattle.egg.specs.Answers.{on_reached}

-- The k lowest letters of c lead back from an element to r, whatever is left of the word before them.
pub record LettersBack (s : List ℕ) (n count from c k : ℕ) (r : Reached) : Type 0 where
  pub leads : (left j : ℕ) → back_by (k + left) (k + j) s n count from c ≡ on_reached r (λ y. back_by left j s n count y (without k c))
