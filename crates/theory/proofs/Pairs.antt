-- The list of pair orders: each pair has its own place in it, and it is n(n-1)/2 long.
use mathlib.Core.Path.{◌≡◌, refl}
use Prim.Native.Nat.{ℕ, zero, suc, ◌+◌, ◌*◌, ◌-◌, ◌/◌, ◌<◌, ◌≤◌}
use native.Mathlib.Nat.{le_refl, mul-sub, div-eq_of_eq-mul_left}
use native.Mathlib.Decide.{le_ind, dec_lt}
use native.Mathlib.Omega.{arith}
use Rattle.theory.specs.Presentation.{pairs_below, pair_place}

pairs_square : (n : ℕ) → pairs_below n * 2 + n ≡ n * n
pairs_square zero = refl
pairs_square (suc n) = omega (arith, pairs_square n)

pub pairs_length : (n : ℕ) → n * (n - 1) / 2 ≡ pairs_below n
pairs_length n = div-eq_of_eq-mul_left (omega arith) (omega (arith, mul-sub n n 1, pairs_square n))

-- The pairs of smaller numbers come first.
pairs_grow : {j n : ℕ} → j ≤ n → pairs_below j ≤ pairs_below n
pairs_grow {j} {n} = le_ind (λ k. pairs_below j ≤ pairs_below k) (le_refl _) (λ k _ h. omega arith) n

pub pair_inside : {i j n : ℕ} → i < j → j < n → pair_place i j < pairs_below n
pair_inside {j = j} {n} hi hj = omega (arith, pairs_grow {j = suc j} {n = n} hj)

-- Every place of the list is a pair's.
pub pair_at : (n p : ℕ) → p < pairs_below n → (i : ℕ) × (j : ℕ) × (i < j) × (j < n) × (pair_place i j ≡ p)
pair_at zero p h = absurd (omega arith)
pair_at (suc n) p h = go (dec_lt p (pairs_below n)) (pair_at n p) where
  go : Dec (p < pairs_below n) → (p < pairs_below n → (i : ℕ) × (j : ℕ) × (i < j) × (j < n) × (pair_place i j ≡ p))
      → (i : ℕ) × (j : ℕ) × (i < j) × (j < suc n) × (pair_place i j ≡ p)
  go (yes l) ih = let (i, j, a, b, c) = ih l in (i, j, a, omega arith, c)
  go (no l) ih = (p - pairs_below n, n, omega arith, omega arith, omega arith)
