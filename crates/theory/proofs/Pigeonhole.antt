-- N + 1 numbers below N are not all different.
use mathlib.Core.Path.{◌≡◌, sym}
use mathlib.Core.Logic.{◌⊎◌, inl, inr, ⊎_elim}
use Prim.Native.Nat.{ℕ, zero, suc, ◌<◌, ◌≤◌}
use native.Mathlib.Decide.{ℕ_discrete}
use native.Mathlib.Omega.{arith}
use Rattle.theory.proofs.BoundedTests.{below_suc}

-- f has at i and at j, for i < j ≤ k, the same value.
pub record Repeats (f : ℕ → ℕ) (k : ℕ) : Type 0 where
  pub i : ℕ
  pub j : ℕ
  pub ordered : i < j
  pub inside : j ≤ k
  pub equal : f i ≡ f j

-- The value v is taken below k, or it is not.
look : (f : ℕ → ℕ) (v k : ℕ) → ((i : ℕ) × (i < k) × (f i ≡ v)) ⊎ ((i : ℕ) → i < k → ¬ (f i ≡ v))
look f v zero = inr (λ i l. absurd (omega arith))
look f v (suc k) = go (ℕ_discrete (f k) v) (look f v k) where
  go : Dec (f k ≡ v) → ((i : ℕ) × (i < k) × (f i ≡ v)) ⊎ ((i : ℕ) → i < k → ¬ (f i ≡ v))
      → ((i : ℕ) × (i < suc k) × (f i ≡ v)) ⊎ ((i : ℕ) → i < suc k → ¬ (f i ≡ v))
  go (yes e) _ = inl (k, omega arith, e)
  go (no f) (inl (i, l, e)) = inl (i, omega arith, e)
  go (no f) (inr none) = inr (λ i l. ⊎_elim (λ e q. f (rw e at q)) (none i) (below_suc l))

-- f with the value v in the place of N.
swap : (N v x : ℕ) → Dec (x ≡ N) → ℕ
swap N v x (yes _) = v
swap N v x (no _) = x

swap_below : (N v x : ℕ) → v < suc N → x < suc N → ¬ (x ≡ v) → (d : Dec (x ≡ N)) → swap N v x d < N
unfolding swap
swap_below N v x hv hx other (yes e) = omega arith
swap_below N v x hv hx other (no e) = omega arith

swap_once : (N v x y : ℕ) → ¬ (x ≡ v) → ¬ (y ≡ v) → (d : Dec (x ≡ N)) (d' : Dec (y ≡ N)) → swap N v x d ≡ swap N v y d' → x ≡ y
unfolding swap
swap_once N v x y hx hy (yes e) (yes e') q = omega arith
swap_once N v x y hx hy (yes e) (no e') q = absurd (hy (sym q))
swap_once N v x y hx hy (no e) (yes e') q = absurd (hx q)
swap_once N v x y hx hy (no e) (no e') q = q

pub pigeonhole : (N : ℕ) (f : ℕ → ℕ) → ((i : ℕ) → i ≤ N → f i < N) → Repeats f N
pigeonhole zero f below = absurd (omega (arith, below 0 (omega arith)))
pigeonhole (suc N) f below = ⊎_elim
    (λ found. record { i = found.0; j = suc N; ordered = found.1; inside = omega arith; equal = found.2 })
    (λ none.
    let r = pigeonhole N (λ i. swap N (f (suc N)) (f i) (ℕ_discrete (f i) N))
    (λ i l. swap_below N (f (suc N)) (f i) (below (suc N) (omega arith)) (below i (omega arith)) (none i (omega arith)) (ℕ_discrete (f i) N)) in
    let hi : r.i < suc N = omega (arith, r.ordered, r.inside) in
    record {
      i = r.i;
      j = r.j;
      ordered = r.ordered;
      inside = omega (arith, r.inside);
      equal = swap_once N (f (suc N)) (f r.i) (f r.j) (none r.i hi) (none r.j (omega (arith, r.inside)))
          (ℕ_discrete (f r.i) N) (ℕ_discrete (f r.j) N) r.equal;
    })
    (look f (f (suc N)) (suc N))
