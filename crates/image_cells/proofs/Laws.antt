-- What a list of bytes spells, cell by cell: how many cells, what stands in each, what a store of four bytes does, and that zeros spell zeros.
use Prim.Native.Nat.{ℕ, zero, suc, ◌+◌, ◌*◌, ◌/◌, ◌%◌, ◌≤◌, ◌<◌}
use mathlib.Core.Path.{◌≡◌, refl, sym, ap, ◌∙◌}
use mathlib.Core.List.{List, [], ◌∷◌}
use native.Mathlib.Omega.{arith}
use borrow.Author.Tests.{lt-ltb, le-ltb}
use lib.ListN.{length, get_or, set, replicate, get_or-eq_default, length-replicate, get_or-replicate}
use lib.Seq.{ext_get_or}
use Rattle.egg.specs.Table.{put_at}
use Rattle.egg.proofs.Laws.{put_at_out}
use Rattle.image_cells.specs.Cells.{spell4, cells, stored4, spell2, halves}

pub cells_length : (l : List ℕ) → length (cells l) ≡ length l / 4
unfolding cells
cells_length [] = omega arith
cells_length (a ∷ []) = omega arith
cells_length (a ∷ b ∷ []) = omega arith
cells_length (a ∷ b ∷ c ∷ []) = omega arith
cells_length (a ∷ b ∷ c ∷ d ∷ r) = omega (arith, cells_length r)

four : (i : ℕ) → 4 * suc i ≡ suc (suc (suc (suc (4 * i))))
four i = omega arith

four_and : (i k : ℕ) → suc (suc (suc (suc (4 * i)))) + k ≡ suc (suc (suc (suc (4 * i + k))))
four_and i k = omega arith

pub cells_at : (l : List ℕ) (i : ℕ) → i < length l / 4
    → get_or (cells l) i 0 ≡ spell4 (get_or l (4 * i) 0) (get_or l (4 * i + 1) 0) (get_or l (4 * i + 2) 0) (get_or l (4 * i + 3) 0)
unfolding cells
cells_at [] i h = absurd (omega arith)
cells_at (a ∷ []) i h = absurd (omega arith)
cells_at (a ∷ b ∷ []) i h = absurd (omega arith)
cells_at (a ∷ b ∷ c ∷ []) i h = absurd (omega arith)
cells_at (a ∷ b ∷ c ∷ d ∷ r) zero h = refl
cells_at (a ∷ b ∷ c ∷ d ∷ r) (suc i) h = rw (four i, four_and i 1, four_and i 2, four_and i 3) (cells_at r i (omega arith))

pub cells_past : (l : List ℕ) (i : ℕ) → length l / 4 ≤ i → get_or (cells l) i 0 ≡ 0
cells_past l i h = get_or-eq_default (cells l) 0 (omega (arith, cells_length l))

pub cells_stored : (l : List ℕ) (i v₀ v₁ v₂ v₃ : ℕ) → i < length l / 4
    → cells (stored4 l (4 * i) v₀ v₁ v₂ v₃) ≡ set (cells l) i (spell4 v₀ v₁ v₂ v₃)
unfolding cells
cells_stored [] i v₀ v₁ v₂ v₃ h = absurd (omega arith)
cells_stored (a ∷ []) i v₀ v₁ v₂ v₃ h = absurd (omega arith)
cells_stored (a ∷ b ∷ []) i v₀ v₁ v₂ v₃ h = absurd (omega arith)
cells_stored (a ∷ b ∷ c ∷ []) i v₀ v₁ v₂ v₃ h = absurd (omega arith)
cells_stored (a ∷ b ∷ c ∷ d ∷ r) zero v₀ v₁ v₂ v₃ h = refl
cells_stored (a ∷ b ∷ c ∷ d ∷ r) (suc i) v₀ v₁ v₂ v₃ h =
    rw (four i, four_and i 1, four_and i 2, four_and i 3) (ap (λ (l : List ℕ). spell4 a b c d ∷ l) (cells_stored r i v₀ v₁ v₂ v₃ (omega arith)))

-- The digits of a 32-bit number spell it.
pub digits : (v : ℕ) → spell4 (v % 256) (v / 256 % 256) (v / 256 / 256 % 256) (v / 256 / 256 / 256) ≡ v
digits v = omega arith

-- Zero bytes spell zero cells.
pub cells_zero : (k : ℕ) → cells (replicate k 0) ≡ replicate (k / 4) 0
cells_zero k = ext_get_or 0 (cells z) (replicate (k / 4) 0) (cells_length z ∙ rw len (sym (length-replicate {A = ℕ} (k / 4) 0))) at_each where
  z : List ℕ
  z = replicate k 0

  len : length z ≡ k
  len = length-replicate {A = ℕ} k 0

  at_each : (i : ℕ) → i < length (cells z) → get_or (cells z) i 0 ≡ get_or (replicate (k / 4) 0) i 0
  at_each i h =
      let m : i < k / 4 = rw (cells_length z, len) at h in
      cells_at z i (rw len m)
      ∙ rw (get_or-replicate {A = ℕ} k (4 * i) 0 0 (omega arith), get_or-replicate {A = ℕ} k (4 * i + 1) 0 0 (omega arith), get_or-replicate {A = ℕ} k (4 * i + 2) 0 0 (omega arith), get_or-replicate {A = ℕ} k (4 * i + 3) 0 0 (omega arith), get_or-replicate {A = ℕ} (k / 4) i 0 0 m)

-- The store of a number's digits is the store of the number.
pub put_stored : (l : List ℕ) (i v : ℕ) → i < length l / 4 → v < 4294967296
    → cells (stored4 l (4 * i) (v % 256) (v / 256 % 256) (v / 256 / 256 % 256) (v / 256 / 256 / 256)) ≡ put_at (cells l) i v
unfolding put_at
put_stored l i v h k = cells_stored l i (v % 256) (v / 256 % 256) (v / 256 / 256 % 256) (v / 256 / 256 / 256) h ∙ rw (digits v, lt-ltb _ _ k)

pub put_past : (l : List ℕ) (i v : ℕ) → length l / 4 ≤ i → cells l ≡ put_at (cells l) i v
put_past l i v h = sym (put_at_out (cells l) i v (omega (arith, cells_length l)))

pub put_wide : (l : List ℕ) (i v : ℕ) → 4294967296 ≤ v → l ≡ put_at l i v
unfolding put_at
put_wide l i v h = rw (le-ltb _ _ h)

-- The same of numbers of two bytes.
pub halves_length : (l : List ℕ) → length (halves l) ≡ length l / 2
unfolding halves
halves_length [] = omega arith
halves_length (a ∷ []) = omega arith
halves_length (a ∷ b ∷ r) = omega (arith, halves_length r)

pub two : (i : ℕ) → 2 * suc i ≡ suc (suc (2 * i))
two i = omega arith

two_and : (i k : ℕ) → suc (suc (2 * i)) + k ≡ suc (suc (2 * i + k))
two_and i k = omega arith

pub halves_at : (l : List ℕ) (i : ℕ) → i < length l / 2 → get_or (halves l) i 0 ≡ spell2 (get_or l (2 * i) 0) (get_or l (2 * i + 1) 0)
unfolding halves
halves_at [] i h = absurd (omega arith)
halves_at (a ∷ []) i h = absurd (omega arith)
halves_at (a ∷ b ∷ r) zero h = refl
halves_at (a ∷ b ∷ r) (suc i) h = rw (two i, two_and i 1) (halves_at r i (omega arith))

pub halves_past : (l : List ℕ) (i : ℕ) → length l / 2 ≤ i → get_or (halves l) i 0 ≡ 0
halves_past l i h = get_or-eq_default (halves l) 0 (omega (arith, halves_length l))
