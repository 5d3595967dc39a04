-- The reading that computes follows the numbering rule: it counts N elements just if the table has N rows by the rule.
use mathlib.Core.Path.{◌≡◌, refl, ◌∙◌, subst}
use mathlib.Core.Logic.{◌↔◌}
use Prim.Native.Nat.{ℕ, zero, suc, ◌+◌, ◌*◌, ◌-◌, ◌<◌, ◌≤◌}
use native.Mathlib.Nat.{le_refl}
use native.Mathlib.Decide.{dec_lt}
use native.Mathlib.Omega.{arith}
use borrow.Author.Tests.{lt-ltb, le-ltb, eq-eqb, ne_eqb}
use Rattle.theory.specs.Numbering.{Known, start, old, new, next_row, Numbered, Skips, Outcome, numbers, skips, unread, read}
use Rattle.theory.proofs.Induction.{Order, less, equal, more, order}
use Rattle.theory.proofs.Counting.{row_known, column_in_row}

module _ (n : ℕ) (step : ℕ → ℕ → ℕ) (k x g c : ℕ) where
  -- One step of the reading, by what stands at the place.
  pub read_old : g < n → step x g < c → read n step (suc k) x g c ≡ read n step k x (suc g) c
  read_old hg t = rw (lt-ltb g n hg, lt-ltb (step x g) c t, read)

  pub read_new : g < n → step x g ≡ c → read n step (suc k) x g c ≡ read n step k x (suc g) (suc c)
  read_new hg t = rw (lt-ltb g n hg, le-ltb (step x g) c (omega arith), eq-eqb (step x g) c t, read)

  pub read_skip : g < n → c < step x g → read n step (suc k) x g c ≡ skips x g (step x g)
  read_skip hg t = rw (lt-ltb g n hg, le-ltb (step x g) c (omega arith), ne_eqb (step x g) c (omega arith), read)

  pub read_row_lem : n ≤ g → suc x < c → read n step (suc k) x g c ≡ read n step k (suc x) 0 c
  read_row_lem hg h = rw (le-ltb g n hg, lt-ltb (suc x) c h, read)

  pub read_end : n ≤ g → c ≤ suc x → read n step (suc k) x g c ≡ numbers c
  read_end hg h = rw (le-ltb g n hg, le-ltb (suc x) c h, read)

-- What an outcome says of the table.
abbrev pub OutcomeSays : ℕ → (ℕ → ℕ → ℕ) → Outcome → Type 0
OutcomeSays n step (numbers N) = Numbered n N step
OutcomeSays n step (skips x g t) = Skips n step x g t
OutcomeSays n step unread = Unit {0}

module _ {n : ℕ} {step : ℕ → ℕ → ℕ} where
  one_step : (k : ℕ) → ((x g c : ℕ) → Known n step x g c → OutcomeSays n step (read n step k x g c))
      → (x g c : ℕ) → Known n step x g c → OutcomeSays n step (read n step (suc k) x g c)
  one_step k ih x g c K = go (dec_lt g n) where
    at_place : g < n → Order (step x g) c → OutcomeSays n step (read n step (suc k) x g c)
    at_place hg (less t) = rw (read_old n step k x g c hg t) (ih x (suc g) c (old K hg t))
    at_place hg (equal t) = rw (read_new n step k x g c hg t) (ih x (suc g) (suc c) (new K hg t))
    at_place hg (more t) = rw (read_skip n step k x g c hg t) (record { count = c; known = K; column = hg; number = refl; ahead = t })

    at_end : n ≤ g → Known n step x n c → Dec (suc x < c) → OutcomeSays n step (read n step (suc k) x g c)
    at_end hg K (yes h) = rw (read_row_lem n step k x g c hg h) (ih (suc x) 0 c (next_row K h))
    at_end hg K (no h) = rw (read_end n step k x g c hg (omega arith)) (record { end = x; last_row = omega (arith, row_known K); known = K })

    go : Dec (g < n) → OutcomeSays n step (read n step (suc k) x g c)
    go (yes h) = at_place h (order (step x g) c)
    go (no h) = let e : g ≡ n = omega (arith, column_in_row K) in at_end (omega arith) (rw e at K) (dec_lt (suc x) c)

  -- Whatever reading comes to is true of the table.
  pub read_true : (k x g c : ℕ) → Known n step x g c → OutcomeSays n step (read n step k x g c)
  read_true zero x g c K = tt
  read_true (suc k) x g c K = one_step k (read_true k) x g c K

  -- As long as the rule holds, reading gets there: x rows and g places are x·(n+1) + g steps.
  pub read_reaches : {x g c : ℕ} → Known n step x g c → (k : ℕ) → read n step (x * suc n + g + k) 0 0 1 ≡ read n step k x g c
  read_reaches start k = let q : 0 * suc n + 0 + k ≡ k = omega arith in rw q
  read_reaches (old {x} {g} {c} K hg t) k =
      let q : x * suc n + suc g + k ≡ x * suc n + g + suc k = omega arith in
      rw q (read_reaches K (suc k) ∙ read_old n step k x g c hg t)
  read_reaches (new {x} {g} {c} K hg t) k =
      let q : x * suc n + suc g + k ≡ x * suc n + g + suc k = omega arith in
      rw q (read_reaches K (suc k) ∙ read_new n step k x g c hg t)
  read_reaches (next_row {x} {c} K h) k =
      let q : suc x * suc n + 0 + k ≡ x * suc n + n + suc k = omega arith in
      rw q (read_reaches K (suc k) ∙ read_row_lem n step k x n c (le_refl n) h)

  -- N·(n+1) steps are enough, and more do no harm.
  pub read_counts : {N : ℕ} → Numbered n N step → (k : ℕ) → N * suc n ≤ k → read n step k 0 0 1 ≡ numbers N
  read_counts {N} R k h =
      let x = R.end in
      let h' : suc x * suc n ≤ k = rw R.last_row h in
      let j = k - suc x * suc n in
      let q : k ≡ x * suc n + n + suc j = omega arith in
      rw q (read_reaches R.known (suc j) ∙ read_end n step j x n N (le_refl n) (omega (arith, R.last_row)))

-- So the reading decides the numbering rule: a table has N rows by it just if N elements are counted.
pub read_exact : (n N : ℕ) (step : ℕ → ℕ → ℕ) → (read n step (N * suc n) 0 0 1 ≡ numbers N) ↔ Numbered n N step
read_exact n N step = (
  λ e. subst (OutcomeSays n step) e (read_true (N * suc n) 0 0 1 start),
  λ R. read_counts R (N * suc n) (le_refl _),
)

-- And a table has so many rows by the rule in one way at most.
pub numbered_once : {n N M : ℕ} {step : ℕ → ℕ → ℕ} → Numbered n N step → Numbered n M step → N ≡ M
numbered_once {n} {N} {M} R S =
    let k = N * suc n + M * suc n in
    cc (read_counts R k (omega arith), read_counts S k (omega arith))
