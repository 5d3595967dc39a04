-- A table: for each element and each generator the element to which that generator leads.
-- Nothing is said here of groups. Everything is for any n and N.
use Rattle.std.specs.Prelude.{◌≡◌, List, ℕ, ◌+◌, ◌*◌, ◌<◌, get_or, eqb}
use Rattle.theory.specs.Bounded.{sum, one}

-- A table of n generators on the elements 0 .. N-1, of which 0 is the identity. `step e g` is the element to which the generator g leads from e.
pub record Table (n N : ℕ) (step : ℕ → ℕ → ℕ) : Type 0 where
  pub origin : 0 < N
  pub closed : {e g : ℕ} → e < N → g < n → step e g < N

-- The step of a table that is written out, rows of n entries one after the other: "the successors, .. by element and then generator".
abbrev pub entry : List ℕ → ℕ → ℕ → ℕ → ℕ
entry rows n e g = get_or rows (e * n + g) 0

-- The element of the generator g: it is read from the identity row.
abbrev pub generator : (ℕ → ℕ → ℕ) → ℕ → ℕ
generator step g = step 0 g

-- Each column is a permutation of 0 .. N-1: `back e g` is the one element from which g leads to e, its predecessor.
-- "A successor or predecessor missing" (8) is a column that is none.
pub record Columns (n N : ℕ) (step back : ℕ → ℕ → ℕ) : Type 0 where
  pub closed : {e g : ℕ} → e < N → g < n → back e g < N
  pub step_back : {e g : ℕ} → e < N → g < n → step (back e g) g ≡ e
  pub back_step : {e g : ℕ} → e < N → g < n → back (step e g) g ≡ e

-- How often e is arrived at, over all elements and generators together: the "count (003)" that refusal 9 looks at.
abbrev pub arrival_count : ℕ → ℕ → (ℕ → ℕ → ℕ) → ℕ → ℕ
arrival_count n N step e = sum N λ x. sum n λ g. one (eqb (step x g) e)
