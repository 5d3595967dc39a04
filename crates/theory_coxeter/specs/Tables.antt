-- The table of a group that the orders present, numbered by first appearance; and that the orders are exact, said of words.
use Rattle.std.specs.Prelude.{◌≡◌, List, [], ℕ, ◌<◌}
use Rattle.theory.specs.Words.{Word, walk}
use Rattle.theory.specs.Numbering.{Numbered}
use Rattle.theory.specs.Presentation.{alternate, Equiv, Holds}

-- N elements by "the numbering rule", in which the relations hold (no 13), and in which two words lead from the identity to one element only if they are equal under
-- the relations.
pub record PresentedTable (n N : ℕ) (m step : ℕ → ℕ → ℕ) : Type 0 where
  pub numbered : Numbered n N step
  pub holds : Holds n N m step
  pub faithful : {u v : List ℕ} → Word n u → Word n v → walk step 0 u ≡ walk step 0 v → Equiv n m u v

-- No smaller power of a product of two generators is the identity under the relations.
pub record ExactWords (n : ℕ) (m : ℕ → ℕ → ℕ) : Type 0 where
  pub positive : {i j : ℕ} → i < j → j < n → 0 < m i j
  pub exact : {i j k : ℕ} → i < j → j < n → 0 < k → k < m i j → ¬ (Equiv n m (alternate i j k) [])
