-- The place where an element first appears is one, and it is found in the table.
use mathlib.Core.Path.{◌≡◌, refl, sym, ◌∙◌}
use mathlib.Core.List.{List}
use Prim.Native.Nat.{ℕ, zero, suc, ◌<◌}
use native.Mathlib.Nat.{lt_irrefl}
use native.Mathlib.Omega.{arith}
use lib.Dec.{ltb→lt, lt→ltb, eqb→eq}
use Rattle.theory.specs.Words.{Spelled, Parents, Recorded}
use Rattle.theory.specs.Numbering.{Numbered}
use Rattle.theory.specs.Appearance.{Ahead, row, column, First, FirstAppearance, column_of, parent_of_lem, last_of_lem, recorded}
use Rattle.theory.proofs.BoundedTests.{eq→eqb, least_is, least_none}
use Rattle.theory.proofs.Recording.{recorded_spelled, word_of_recorded, recorded_once}
use Rattle.theory.proofs.Counting.{appeared}

module _ {n : ℕ} {step : ℕ → ℕ → ℕ} {e y h : ℕ} (F : First n step e y h) where
  -- What is read before the place is not e.
  not_before : {x g : ℕ} → g < n → Ahead x g y h → ¬ (step x g ≡ e)
  not_before hg a q = lt_irrefl e (rw q at (F.before hg a))

  column_found : column_of n step e y ≡ h
  column_found = least_is n _ h F.generator (eq→eqb F.arrives)
      (λ g l t. not_before (omega (arith, F.generator)) (column refl l) (eqb→eq _ _ t))

  row_above : (x : ℕ) → x < y → column_of n step e x ≡ n
  row_above x l = least_none n _ (λ g hg t. not_before hg (row l) (eqb→eq _ _ t))

  pub parent_found : parent_of_lem n step e ≡ y
  parent_found = least_is e _ y F.earlier (lt→ltb (column_of n step e y) n (rw column_found F.generator))
      (λ x l t. omega (arith, row_above x l, ltb→lt (column_of n step e x) n t))

  pub last_found : last_of_lem n step e ≡ h
  last_found = rw parent_found column_found

-- Two first places of one element are the same place.
pub first_unique : {n : ℕ} {step : ℕ → ℕ → ℕ} {e y h y' h' : ℕ} → First n step e y h → First n step e y' h' → (y ≡ y') × (h ≡ h')
first_unique F F' = (sym (parent_found F) ∙ parent_found F', sym (last_found F) ∙ last_found F')

-- So parents and last generators from there are the same, where the identity has the same.
module _ {n N : ℕ} {step : ℕ → ℕ → ℕ} {parent last parent' last' : ℕ → ℕ} (F : FirstAppearance n N step parent last)
    (F' : FirstAppearance n N step parent' last') where
  pub parent_unique : parent' 0 ≡ parent 0 → (e : ℕ) → e < N → parent' e ≡ parent e
  parent_unique z zero h = z
  parent_unique z (suc e) h = (first_unique (F'.first (omega arith) h) (F.first (omega arith) h)).0

  pub last_unique : last' 0 ≡ last 0 → (e : ℕ) → e < N → last' e ≡ last e
  last_unique z zero h = z
  last_unique z (suc e) h = (first_unique (F'.first (omega arith) h) (F.first (omega arith) h)).1

module _ {n N : ℕ} {step : ℕ → ℕ → ℕ} where
  pub first_parents : {parent last : ℕ → ℕ} → FirstAppearance n N step parent last → Parents n N step parent last
  first_parents F = record {
    earlier = λ pos h. (F.first pos h).earlier;
    generator = λ pos h. (F.first pos h).generator;
    arrives = λ pos h. (F.first pos h).arrives;
  }

  -- In a table by the numbering rule each element has the parent and the last generator that are found in it.
  pub numbered_first : Numbered n N step → FirstAppearance n N step (parent_of_lem n step) (last_of_lem n step)
  numbered_first R = record { first = λ pos l. found (appeared R.known pos l) } where
    found : {e : ℕ} → ((y : ℕ) × (h : ℕ) × First n step e y h) → First n step e (parent_of_lem n step e) (last_of_lem n step e)
    found p = rw (last_found p.2, parent_found p.2) p.2

  -- So the recorded words, read from the table alone, lead to their elements.
  pub numbered_spelled : Numbered n N step → Spelled n N step (recorded n step)
  numbered_spelled R =
      let P = first_parents (numbered_first R) in
      recorded_spelled P (word_of_recorded P)

  -- And whoever records the places of first appearance records these words.
  pub first_recorded : {parent last : ℕ → ℕ} {word : ℕ → List ℕ} → Numbered n N step
      → FirstAppearance n N step parent last → Recorded N parent last word → (e : ℕ) → e < N → word e ≡ recorded n step e
  first_recorded R F W = recorded_once W (word_of_recorded (first_parents (numbered_first R)))
      (λ e pos h. let f = F.first pos h in (f.earlier, sym (parent_found f), sym (last_found f)))
