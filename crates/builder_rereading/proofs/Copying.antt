-- The copy of the successors: where the work is long enough, each stands at its place.
use Prim.Native.Nat.{ℕ, zero, suc, ◌+◌, ◌*◌, ◌≤◌, ◌<◌}
use mathlib.Core.Path.{◌≡◌, refl, ◌∙◌}
use mathlib.Core.Logic.{⊎_elim}
use mathlib.Core.List.{List}
use native.Mathlib.Nat.{mul-le-mul, le_refl, eq-or-lt_of_le}
use native.Mathlib.Omega.{arith}
use lib.ListN.{length, get_or, set, length-set}
use lib.Seq.{get_or-set_same, get_or-set_other}
use Rattle.builder_rereading.specs.Own.{stored_at, copied_step, copied_row, copied}

-- A row's places end before the next row's start.
row_within : (n : ℕ) {e N l : ℕ} → e < N → N * n ≤ l → e * n + n ≤ l
row_within n {e} h k = omega (arith, mul-le-mul {n₁ = suc e} h (le_refl n))

module _ (t : List ℕ) (n e : ℕ) where
  row_length : (k g : ℕ) (w : List ℕ) → length (copied_row k t n e g w) ≡ length w
  unfolding copied_row
  row_length zero g w = refl
  row_length (suc k) g w = row_length k (g + 1) (set w (e * n + g) (stored_at t n e g)) ∙ length-set w (e * n + g) (stored_at t n e g)

  -- What stands before is kept.
  row_before : (k g : ℕ) (w : List ℕ) (i : ℕ) → i < e * n + g → get_or (copied_row k t n e g w) i 0 ≡ get_or w i 0
  unfolding copied_row
  row_before zero g w i h = refl
  row_before (suc k) g w i h =
      row_before k (g + 1) (set w (e * n + g) (stored_at t n e g)) i (omega arith)
      ∙ get_or-set_other w (e * n + g) i (stored_at t n e g) 0 (λ q. omega arith)

  row_cell : (k g : ℕ) (w : List ℕ) → g + k ≡ n → e * n + n ≤ length w → (h : ℕ) → g ≤ h → h < n
      → copied_step (copied_row k t n e g w) n e h ≡ stored_at t n e h
  unfolding copied_row
  row_cell zero g w q long h lo hi = absurd (omega arith)
  row_cell (suc k) g w q long h lo hi =
      let w₁ = set w (e * n + g) (stored_at t n e g) in
      let l : length w₁ ≡ length w = length-set w (e * n + g) (stored_at t n e g) in
      ⊎_elim
      (λ p. rw (← p) (row_before k (g + 1) w₁ (e * n + g) (omega arith) ∙ get_or-set_same w (e * n + g) (stored_at t n e g) 0 (omega arith)))
      (λ m. row_cell k (g + 1) w₁ (omega arith) (rw l long) h (omega arith) hi)
      (eq-or-lt_of_le lo)

module _ (t : List ℕ) (n : ℕ) where
  pub copied_length : (k e : ℕ) (w : List ℕ) → length (copied k t n e w) ≡ length w
  unfolding copied
  copied_length zero e w = refl
  copied_length (suc k) e w = copied_length k (e + 1) (copied_row n t n e 0 w) ∙ row_length t n e n 0 w

  copied_before : (k e : ℕ) (w : List ℕ) (i : ℕ) → i < e * n → get_or (copied k t n e w) i 0 ≡ get_or w i 0
  unfolding copied
  copied_before zero e w i h = refl
  copied_before (suc k) e w i h =
      copied_before k (e + 1) (copied_row n t n e 0 w) i (omega arith) ∙ row_before t n e n 0 w i (omega arith)

  copied_from : (k e : ℕ) (w : List ℕ) → (e + k) * n ≤ length w → (y h : ℕ) → e ≤ y → y < e + k → h < n
      → copied_step (copied k t n e w) n y h ≡ stored_at t n y h
  unfolding copied
  copied_from zero e w long y h lo hi hh = absurd (omega arith)
  copied_from (suc k) e w long y h lo hi hh =
      let w₁ = copied_row n t n e 0 w in
      let l : length w₁ ≡ length w = row_length t n e n 0 w in
      let r : e * n + n ≤ length w = row_within n {e = e} {N = e + suc k} (omega arith) long in
      ⊎_elim
      (λ p. rw (← p) (copied_before k (e + 1) w₁ (e * n + h) (omega arith) ∙ row_cell t n e n 0 w (omega arith) r h (omega arith) hh))
      (λ m. copied_from k (e + 1) w₁ (rw l (omega arith)) y h (omega arith) (omega arith) hh)
      (eq-or-lt_of_le lo)

  -- Every successor of the first N rows.
  pub copied_at : (N : ℕ) (w : List ℕ) → N * n ≤ length w → (e g : ℕ) → e < N → g < n → copied_step (copied N t n 0 w) n e g ≡ stored_at t n e g
  copied_at N w long e g he hg = copied_from N 0 w (omega arith) e g (omega arith) (omega arith) hg
