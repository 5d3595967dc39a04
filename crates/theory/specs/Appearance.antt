-- Where an element first appears when a table is read row by row: that place gives its parent, its last generator and its recorded word.
use Rattle.std.specs.Prelude.{◌≡◌, List, ℕ, ◌<◌, ltb, eqb}
use Rattle.theory.specs.Bounded.{least}
use Rattle.theory.specs.Words.{word_of_lem}

-- The place at row x and column g is read before the one at row y and column h.
pub data Ahead (x g y h : ℕ) : Type 0 where
  row : x < y → Ahead x g y h
  column : x ≡ y → g < h → Ahead x g y h

-- The element e first appears at row y and column h: every number that is read before is less than e.
pub record First (n : ℕ) (step : ℕ → ℕ → ℕ) (e y h : ℕ) : Type 0 where
  pub earlier : y < e
  pub generator : h < n
  pub arrives : step y h ≡ e
  pub before : {x g : ℕ} → g < n → Ahead x g y h → step x g < e

-- Each element but the identity has its parent and last generator from the place where it first appears: the parent is the row, the last generator
-- the column.
pub record FirstAppearance (n N : ℕ) (step : ℕ → ℕ → ℕ) (parent last : ℕ → ℕ) : Type 0 where
  pub first : {e : ℕ} → 0 < e → e < N → First n step e (parent e) (last e)

-- The first column of row x in which e stands, or n where it stands in none.
abbrev pub column_of : ℕ → (ℕ → ℕ → ℕ) → ℕ → ℕ → ℕ
column_of n step e x = least n (λ g. eqb (step x g) e)

-- The parent of e, found in the table: the first row before e in which e stands.
abbrev pub parent_of_lem : ℕ → (ℕ → ℕ → ℕ) → ℕ → ℕ
parent_of_lem n step e = least e (λ x. ltb (column_of n step e x) n)

-- The last generator of e, found in the table: the first column of that row in which e stands.
abbrev pub last_of_lem : ℕ → (ℕ → ℕ → ℕ) → ℕ → ℕ
last_of_lem n step e = column_of n step e (parent_of_lem n step e)

-- The recorded word of e, found in the table alone: "Each element's word is its parent's word and one generator."
abbrev pub recorded : ℕ → (ℕ → ℕ → ℕ) → ℕ → List ℕ
recorded n step = word_of_lem (parent_of_lem n step) (last_of_lem n step)
