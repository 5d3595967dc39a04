-- Four walks back by the letters in four cells, in step. Elements are given as they are stored, each as one more than its number.
use Rattle.std.specs.Prelude.{ℕ, ◌-◌, ◌%◌, ◌≤◌, ◌<◌, ◌≡◌, true, List}
use Rattle.std.specs.Prelude.{Ok}
use Rattle.factor_word_letters.specs.Spell.{cell_by}
use Rattle.factor_word_walks.specs.Walks.{read_step_back}
use Rattle.factor_word_walks.specs.Letters.{LettersBack}
use Rattle.lists_walks.specs.declared.inner.Four.{Four}

-- The same holds of all four.
pub record EachOf (P : (Four → ℕ) → Type 0) : Type 0 where
  pub p : P (λ f. f.p)
  pub q : P (λ f. f.q)
  pub r : P (λ f. f.r)
  pub t : P (λ f. f.t)

-- What is stored as y is an element.
pub record Stored (count y : ℕ) : Type 0 where
  pub some : 0 < y
  pub small : y ≤ count

-- The lowest letter of c leads back from y to x.
pub record LetterBack (s : List ℕ) (n count y c x : ℕ) : Type 0 where
  pub stored : Stored count x
  pub letter : c % 8 < n
  pub back : Ok (record { 0 = x - 1 }) ≡ read_step_back s n count (y - 1) (c % 8)

-- The k lowest letters of c lead back from y to x, and above them stands an element.
pub record CellBack (s : List ℕ) (n count k y c x : ℕ) : Type 0 where
  pub stored : Stored count x
  pub within : cell_by k n count c ≡ true
  pub back : LettersBack s n count (y - 1) c k (Ok (record { 0 = x - 1 }))
