-- A column in which each element has a predecessor is a permutation, and in a table of such columns each element is arrived at n times.
use mathlib.Core.Path.{◌≡◌, refl, sym, ap}
use mathlib.Core.Logic.{⊎_elim}
use mathlib.Core.Bool.{Bool}
use Prim.Native.Nat.{ℕ, zero, suc, ◌+◌, ◌*◌, ◌<◌, ◌≤◌}
use native.Mathlib.Nat.{zero-mul}
use native.Mathlib.Decide.{dec_lt}
use native.Mathlib.Omega.{arith}
use lib.Dec.{T, eqb, eqb→eq}
use Rattle.theory.specs.Bounded.{sum, one}
use Rattle.theory.specs.Table.{Table, Columns, arrival_count}
use Rattle.theory.proofs.BoundedTests.{eq→eqb, is_true, is_false, below_suc}
use Rattle.theory.proofs.Pigeonhole.{Repeats, pigeonhole}

-- f below N, and v at N.
then : (N : ℕ) (f : ℕ → ℕ) (v i : ℕ) → Dec (i < N) → ℕ
then N f v i (yes _) = f i
then N f v i (no _) = v

-- A map of 0 .. N-1 to itself that takes no two to one takes one to each v: else it and v would be N + 1 different numbers below N.
pub injective_onto : (N : ℕ) (f : ℕ → ℕ) → ((i : ℕ) → i < N → f i < N) → ((i j : ℕ) → i < N → j < N → f i ≡ f j → i ≡ j)
    → (v : ℕ) → v < N → (i : ℕ) × (i < N) × (f i ≡ v)
unfolding then
injective_onto N f below once v hv = go (pigeonhole N (λ i. then N f v i (dec_lt i N)) (λ i _. in_range i (dec_lt i N))) where
  in_range : (i : ℕ) (d : Dec (i < N)) → then N f v i d < N
  in_range i (yes h) = below i h
  in_range i (no _) = hv

  at : (i j : ℕ) (d : Dec (i < N)) (d' : Dec (j < N)) → i < j → j ≤ N → then N f v i d ≡ then N f v j d' → (i : ℕ) × (i < N) × (f i ≡ v)
  at i j (yes h) (yes h') l m e = absurd (omega (arith, once i j h h' e))
  at i j (yes h) (no _) l m e = (i, h, e)
  at i j (no h) d l m e = absurd (omega arith)

  go : Repeats (λ i. then N f v i (dec_lt i N)) N → (i : ℕ) × (i < N) × (f i ≡ v)
  go r = at r.i r.j (dec_lt r.i N) (dec_lt r.j N) r.ordered r.inside r.equal

-- Refusal 8 finds every column that is no permutation: it is enough that each element has a predecessor.
pub columns_by_back : {n N : ℕ} {step back : ℕ → ℕ → ℕ} → Table n N step
    → ((e g : ℕ) → e < N → g < n → (back e g < N) × (step (back e g) g ≡ e)) → Columns n N step back
columns_by_back {n} {N} {step} {back} T b = record {
  closed = λ he hg. (b _ _ he hg).0;
  step_back = λ he hg. (b _ _ he hg).1;
  back_step = λ {e} {g} he hg. undone e g hg (injective_onto N (λ i. back i g) (λ i h. (b i g h hg).0) (apart g hg) e he);
} where
  apart : (g : ℕ) → g < n → (i j : ℕ) → i < N → j < N → back i g ≡ back j g → i ≡ j
  apart g hg i j hi hj e = cc ((b i g hi hg).1, (b j g hj hg).1)

  undone : (e g : ℕ) → g < n → ((i : ℕ) × (i < N) × (back i g ≡ e)) → back (step e g) g ≡ e
  undone e g hg (i, hi, q) = cc (b i g hi hg).1

-- Sums of one number over and over, of sums, and row by row or column by column.
sum_same : (k c : ℕ) (f : ℕ → ℕ) → ((i : ℕ) → i < k → f i ≡ c) → sum k f ≡ k * c
sum_same zero c f h = sym (zero-mul c)
sum_same (suc k) c f h = omega (arith, h k (omega arith), sum_same k c f (λ i l. h i (omega arith)))

sum_add : (k : ℕ) (f h : ℕ → ℕ) → sum k (λ i. f i + h i) ≡ sum k f + sum k h
sum_add zero f h = refl
sum_add (suc k) f h = omega (arith, sum_add k f h)

sum_swap : (k l : ℕ) (f : ℕ → ℕ → ℕ) → sum k (λ i. sum l (λ j. f i j)) ≡ sum l (λ j. sum k (λ i. f i j))
sum_swap zero l f = omega (arith, sum_same l 0 (λ _. 0) (λ _ _. refl))
sum_swap (suc k) l f = omega (arith, sum_swap k l f, sum_add l (λ j. sum k (λ i. f i j)) (λ j. f k j))

-- A test that one number below k passes.
sum_single : (k : ℕ) (p : ℕ → Bool) (b : ℕ) → b < k → T (p b) → ((i : ℕ) → i < k → T (p i) → i ≡ b) → sum k (λ i. one (p i)) ≡ 1
sum_single zero p b hb t only = absurd (omega arith)
sum_single (suc k) p b hb t only = ⊎_elim
    (λ e. omega (
      arith,
      ap one (is_true (p k) (rw e at t)),
      sum_same k 0 (λ i. one (p i)) (λ i l. ap one (is_false (p i) (λ u. omega (arith, only i (omega arith) u)))),
    ))
    (λ l. omega (
      arith,
      ap one (is_false (p k) (λ u. omega (arith, only k (omega arith) u))),
      sum_single k p b l t (λ i m. only i (omega arith)),
    ))
    (below_suc hb)

-- "Counting arrivals over all generators together" never refuses a table whose columns are permutations.
pub arrivals_are : {n N : ℕ} {step back : ℕ → ℕ → ℕ} → Columns n N step back → {e : ℕ} → e < N → arrival_count n N step e ≡ n
arrivals_are {n} {N} {step} {back} B {e} he =
    omega (arith, sum_swap N n (λ x g. one (eqb (step x g) e)), sum_same n 1 (λ g. sum N (λ x. one (eqb (step x g) e))) once) where
      once : (g : ℕ) → g < n → sum N (λ x. one (eqb (step x g) e)) ≡ 1
      once g hg = sum_single N (λ x. eqb (step x g) e) (back e g) (B.closed he hg) (eq→eqb (B.step_back he hg))
          (λ x hx t. let q = eqb→eq (step x g) e t in cc (B.back_step hx hg))
