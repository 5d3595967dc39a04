-- Laws of the list of pair orders, one for each way in which looking at it ends.
use Prim.Native.Nat.{ℕ, ◌+◌, ◌*◌, ◌-◌, ◌/◌, ◌≤◌, ◌<◌}
use mathlib.Core.Path.{◌≡◌, refl, sym}
use mathlib.Core.Bool.{Bool, true, false}
use mathlib.Core.List.{List}
use native.Mathlib.Nat.{mul-le-mul}
use native.Mathlib.Omega.{arith}
use borrow.Author.Tests.{eq-eqb, ne_eqb, le-leb, lt-leb, leb-true, eqb-true}
use lib.Dec.{leb, eqb}
use lib.ListN.{length, get_or}
use Rattle.egg.specs.Answers.{fine}
use Rattle.egg.specs.Table.{pick}
use Rattle.egg.specs.Scan.{refused_of, scan}
use Rattle.egg.specs.Pairs.{pair_count, order_at, orders_right}
use Rattle.egg.proofs.Scans.{refused_fine, scan_here, scan_next, scan_fine}

module _ (o : List ℕ) (n : ℕ) {count : ℕ} (c : count ≡ pair_count n) where
  pub orders_length : (length o ≡ count → ⊥) → refused_of 2 0 0 0 ≡ orders_right o n
  unfolding orders_right
  orders_length h = rw (← c) (simp (ne_eqb _ _ h))

  pub orders_begin : length o ≡ count → scan (count - 0) (λ k. order_at o k) 0 ≡ orders_right o n
  unfolding orders_right
  orders_begin h = let q : count - 0 ≡ length o = omega arith in rw (q, ← c) (simp (eq-eqb _ _ h))

module _ (o : List ℕ) (count k : ℕ) {m : ℕ} (e : m ≡ get_or o k 0) (h : k < count) where
  pub order_low : m < 2 → refused_of 3 k 0 0 ≡ scan (count - k) (λ k. order_at o k) k
  order_low z = sym (scan_here count (λ k. order_at o k) k h (rw (← e) (simp (lt-leb _ _ z))))

  pub order_high : 2 ≤ m → 32767 < m → refused_of 3 k 0 0 ≡ scan (count - k) (λ k. order_at o k) k
  order_high p z = sym (scan_here count (λ k. order_at o k) k h (rw (← e) (simp (le-leb _ _ p, lt-leb _ _ z))))

  pub order_fine : 2 ≤ m → m ≤ 32767 → scan (count - k) (λ k. order_at o k) k ≡ scan (count - (k + 1)) (λ k. order_at o k) (k + 1)
  order_fine p z = scan_next count (λ k. order_at o k) k h (rw (← e) (simp (le-leb _ _ p, le-leb _ _ z)))

order_limits : (o : List ℕ) (k : ℕ) → order_at o k ≡ fine → (2 ≤ get_or o k 0) × (get_or o k 0 < 32768)
order_limits o k h = by (leb 2 (get_or o k 0)) (leb (get_or o k 0) 32767) refl refl h where
  by : (a b : Bool) → leb 2 (get_or o k 0) ≡ a → leb (get_or o k 0) 32767 ≡ b
      → pick a (pick b fine (refused_of 3 k 0 0)) (refused_of 3 k 0 0) ≡ fine → (2 ≤ get_or o k 0) × (get_or o k 0 < 32768)
  by true true p q e = omega (arith, leb-true 2 (get_or o k 0) p, leb-true (get_or o k 0) 32767 q)
  by true false p q e = absurd (refused_fine e)
  by false b p q e = absurd (refused_fine e)

-- What 2 and 3 have shown of the orders.
pub orders_limits : (o : List ℕ) (n : ℕ) → orders_right o n ≡ fine
    → (length o ≡ n * (n - 1) / 2) × ((k : ℕ) → k < length o → (2 ≤ get_or o k 0) × (get_or o k 0 < 32768))
unfolding orders_right pair_count
orders_limits o n h = by (eqb (length o) (n * (n - 1) / 2)) refl h where
  by : (b : Bool) → eqb (length o) (n * (n - 1) / 2) ≡ b → pick b (scan (length o) (λ k. order_at o k) 0) (refused_of 2 0 0 0) ≡ fine
      → (length o ≡ n * (n - 1) / 2) × ((k : ℕ) → k < length o → (2 ≤ get_or o k 0) × (get_or o k 0 < 32768))
  by true q e = (eqb-true _ _ q, λ k hk. order_limits o k ((scan_fine (length o) (λ k. order_at o k)).0 e k hk))
  by false q e = absurd (refused_fine e)

-- Eight generators have 28 pairs.
pub few_pairs : (n : ℕ) → n ≤ 8 → n * (n - 1) / 2 ≤ 28
few_pairs n h = let p : n - 1 ≤ 7 = omega arith in omega (arith, mul-le-mul h p)

pub pairs_few : {n : ℕ} → n ≤ 8 → pair_count n ≤ 28
unfolding pair_count
pairs_few {n} h = few_pairs n h
