-- A row has w cells, and cell k of row e stands at e * w + k: inside the list, and at a place of its own. What a store changes and what it leaves.
use Prim.Native.Nat.{ℕ, ◌+◌, ◌*◌, ◌/◌, ◌<◌}
use mathlib.Core.Path.{◌≡◌, refl, ap, ◌∙◌}
use mathlib.Core.Bool.{Bool, true, false}
use mathlib.Core.List.{List}
use native.Mathlib.Nat.{mul-le-mul_right, mul-add-div_right, div-eq_of_lt}
use native.Mathlib.Decide.{ℕ_discrete}
use native.Mathlib.Omega.{arith}
use lib.ListN.{length, get_or, set, length-set}
use lib.Seq.{get_or-set_same, get_or-set_other}
use lib.Dec.{ltb}
use borrow.Author.Tests.{lt-ltb}
use Rattle.egg.specs.Table.{pick, put_at, start_of}

pub inside : {e N k w : ℕ} → e < N → k < w → e * w + k < N * w
inside {w = w} he hk = omega (arith, mul-le-mul_right w he)

module _ (e e' : ℕ) {k k' w : ℕ} (hk : k < w) (hk' : k' < w) (q : e * w + k ≡ e' * w + k') where
  pub same_row : e ≡ e'
  same_row =
      let p : 0 < w = omega arith in
      omega (arith, mul-add-div_right p e k, mul-add-div_right p e' k', ap (λ (x : ℕ). x / w) q, div-eq_of_lt hk, div-eq_of_lt hk')

  pub same_cell : k ≡ k'
  same_cell = omega (arith, ap (λ (x : ℕ). x * w) same_row)

module _ (l : List ℕ) (i v : ℕ) where
  pub put_same : i < length l → v < 4294967296 → get_or (put_at l i v) i 0 ≡ v
  unfolding put_at
  put_same h k = simp (lt-ltb _ _ k) (get_or-set_same l i v 0 h)

  pub put_other : {j : ℕ} → (j ≡ i → ⊥) → get_or (put_at l i v) j 0 ≡ get_or l j 0
  unfolding put_at
  put_other {j} h = by (ltb v 4294967296) where
    by : (b : Bool) → get_or (pick b (set l i v) l) j 0 ≡ get_or l j 0
    by true = get_or-set_other l i j v 0 h
    by false = refl

  pub put_length : length (put_at l i v) ≡ length l
  unfolding put_at
  put_length = by (ltb v 4294967296) where
    by : (b : Bool) → length (pick b (set l i v) l) ≡ length l
    by true = length-set l i v
    by false = refl

-- A list that agrees with f below x agrees with it below x + 1, once f x is stored at x.
pub put_extends : (f : ℕ → ℕ) (l : List ℕ) (x v : ℕ) → x < length l → v < 4294967296 → v ≡ f x → ((y : ℕ) → y < x → get_or l y 0 ≡ f y)
    → (y : ℕ) → y < x + 1 → get_or (put_at l x v) y 0 ≡ f y
put_extends f l x v h k e before y hy = go (ℕ_discrete y x) where
  go : Dec (y ≡ x) → get_or (put_at l x v) y 0 ≡ f y
  go (yes q) = rw q (put_same l x v h k ∙ e)
  go (no d) = put_other l x v d ∙ before y (omega arith)

-- The cells of a table of n generators: cell k of row e is at start_of n e + k.
module _ (n : ℕ) {k : ℕ} (hk : k < 2 * n + 4) where
  pub cell_inside : {e N : ℕ} → e < N → start_of n e + k < N * (2 * n + 4)
  unfolding start_of
  cell_inside he = inside he hk

  module _ (e e' : ℕ) {k' : ℕ} (hk' : k' < 2 * n + 4) where
    pub other_cell : (k ≡ k' → ⊥) → start_of n e + k ≡ start_of n e' + k' → ⊥
    unfolding start_of
    other_cell d q = d (same_cell e e' hk hk' q)

    pub other_row : (e ≡ e' → ⊥) → start_of n e + k ≡ start_of n e' + k' → ⊥
    unfolding start_of
    other_row d q = d (same_row e e' hk hk' q)
