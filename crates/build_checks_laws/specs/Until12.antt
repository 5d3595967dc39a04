-- What it means that refusals 8 to 11 are not due.
use Rattle.std.specs.Prelude.{ℕ, ◌<◌, ◌≡◌, List}
use Rattle.theory.specs.Table.{Table, Columns, generator, arrival_count}
use Rattle.theory.specs.Numbering.{IdentityRow}
use Rattle.theory.specs.Regular.{inverse}

-- Nothing is to be refused before 12 of these steps, steps back and recorded words.
-- Refusal 8, "a successor or predecessor missing", is not due: every step leads to an element, and each column is a permutation, which `back` undoes.
-- Nor is 9, "a fixed point or wrong generator row or count (003)": no step stays where it is; only the identity has a generator's element as its step
-- by that generator; every element is arrived at n times, over all generators together.
-- Nor is 10, "inverse of inverse differs", where "the inverse follows the reversed word through predecessors from the identity".
-- Nor is 11, "identity row is not 1..n".
pub record Until12 (n N : ℕ) (step back : ℕ → ℕ → ℕ) (word : ℕ → List ℕ) : Type 0 where
  pub successors : Table n N step
  pub predecessors : Columns n N step back
  pub no_fixed_point : {e g : ℕ} → e < N → g < n → ¬ (step e g ≡ e)
  pub generator_row : {e g : ℕ} → 0 < e → e < N → g < n → ¬ (step e g ≡ generator step g)
  pub counts : {e : ℕ} → e < N → arrival_count n N step e ≡ n
  pub inverse_of_inverse : {e : ℕ} → e < N → inverse back word (inverse back word e) ≡ e
  pub identity_row_lem : IdentityRow n step
