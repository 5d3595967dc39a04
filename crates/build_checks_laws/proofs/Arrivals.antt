-- Where the columns are permutations, each element is arrived at once for each generator: after the rows below e and the first g places of row e,
-- the count at r is the number of generators that lead to r from an element below e, and of the first g of them that lead to r from e.
use Prim.Native.Nat.{ℕ, zero, suc, ◌+◌, ◌≤◌, ◌<◌}
use mathlib.Core.Path.{◌≡◌, refl, sym, ap, ◌∙◌}
use mathlib.Core.Bool.{Bool, true, false}
use mathlib.Core.List.{List}
use native.Mathlib.Decide.{ℕ_discrete, dec_lt}
use native.Mathlib.Numerals.{add-one}
use native.Mathlib.Omega.{arith}
use borrow.Author.Tests.{lt-ltb, le-ltb, eq-eqb, ne_eqb}
use lib.Dec.{ltb, eqb}
use lib.ListN.{length, get_or, get_or-eq_default}
use Rattle.egg.specs.Table.{pick, put_at, step_of}
use Rattle.build_checks.specs.Checks.{wiped, arrive_row, arrivals, counted}
use Rattle.theory.specs.Table.{Columns}
use Rattle.theory.proofs.Induction.{Order, less, equal, more, order}
use Rattle.build_checks_laws.specs.Stored.{StoredTable}
use Rattle.egg.proofs.Cells.{put_same, put_other, put_length}
use Rattle.build_checks_laws.proofs.Inverses.{step_is}

-- The wiping, whatever the work is like.
pub put_zero : (w : List ℕ) (e : ℕ) → get_or (put_at w e 0) e 0 ≡ 0
put_zero w e = go (dec_lt e (length w)) where
  go : Dec (e < length w) → get_or (put_at w e 0) e 0 ≡ 0
  go (yes h) = put_same w e 0 h (omega arith)
  go (no h) = get_or-eq_default (put_at w e 0) 0 (omega (arith, put_length w e 0))

wiped_zero : (k : ℕ) (w : List ℕ) (e : ℕ) → ((y : ℕ) → y < e → get_or w y 0 ≡ 0) → (y : ℕ) → y < e + k → get_or (wiped k w e) y 0 ≡ 0
unfolding wiped
wiped_zero zero w e before y hy = before y (omega arith)
wiped_zero (suc k) w e before y hy = wiped_zero k (put_at w e 0) (e + 1) (λ z hz. go z hz (ℕ_discrete z e)) y (omega arith) where
  go : (z : ℕ) → z < e + 1 → Dec (z ≡ e) → get_or (put_at w e 0) z 0 ≡ 0
  go z hz (yes q) = rw q (put_zero w e)
  go z hz (no d) = put_other w e 0 d ∙ before z (omega arith)

wiped_length : (k : ℕ) (w : List ℕ) (e : ℕ) → length (wiped k w e) ≡ length w
unfolding wiped
wiped_length zero w e = refl
wiped_length (suc k) w e = wiped_length k (put_at w e 0) (e + 1) ∙ put_length w e 0

row_length : (k : ℕ) (t : List ℕ) (n e : ℕ) (w : List ℕ) (g : ℕ) → length (arrive_row k t n e w g) ≡ length w
unfolding arrive_row
row_length zero t n e w g = refl
row_length (suc k) t n e w g =
    row_length k t n e (put_at w (step_of t n e g) (get_or w (step_of t n e g) 0 + 1)) (g + 1) ∙ put_length w (step_of t n e g) (get_or w (step_of t n e g) 0 + 1)

rows_length : (k : ℕ) (t : List ℕ) (n : ℕ) (w : List ℕ) (e : ℕ) → length (arrivals k t n w e) ≡ length w
unfolding arrivals
rows_length zero t n w e = refl
rows_length (suc k) t n w e = rows_length k t n (arrive_row n t n e w 0) (e + 1) ∙ row_length n t n e w 0

pub counted_length : (t w : List ℕ) (n N : ℕ) → length (counted t w n N) ≡ length w
counted_length t w n N = rows_length N t n (wiped N w 0) 0 ∙ wiped_length N w 0

-- How many of the numbers below k pass a test.
abbrev one : Bool → ℕ
one b = pick b 1 0

abbrev tally : (ℕ → Bool) → ℕ → ℕ
tally p zero = 0
tally p (suc k) = tally p k + one (p k)

one_most : (b : Bool) → one b ≤ 1
one_most true = omega arith
one_most false = omega arith

tally_most : (p : ℕ → Bool) (k : ℕ) → tally p k ≤ k
tally_most p zero = omega arith
tally_most p (suc k) = omega (arith, tally_most p k, one_most (p k))

tally_all : (p : ℕ → Bool) (k : ℕ) → ((h : ℕ) → h < k → p h ≡ true) → tally p k ≡ k
tally_all p zero all = refl
tally_all p (suc k) all = omega (arith, tally_all p k (λ h l. all h (omega arith)), ap one (all k (omega arith)))

tally_none : (p : ℕ → Bool) (k : ℕ) → ((h : ℕ) → h < k → p h ≡ false) → tally p k ≡ 0
tally_none p zero all = refl
tally_none p (suc k) all = omega (arith, tally_none p k (λ h l. all h (omega arith)), ap one (all k (omega arith)))

one_split : (a e : ℕ) → one (ltb a e) + one (eqb a e) ≡ one (ltb a (e + 1))
one_split a e = go (order a e) where
  go : Order a e → one (ltb a e) + one (eqb a e) ≡ one (ltb a (e + 1))
  go (less h) = let k : a < e + 1 = omega arith in simp (lt-ltb _ _ h, ne_eqb a e (λ q. omega arith), lt-ltb _ _ k)
  go (equal h) = let k : a < e + 1 = omega arith in simp (le-ltb a e (omega arith), eq-eqb _ _ h, lt-ltb _ _ k)
  go (more h) = let k : e + 1 ≤ a = omega arith in simp (le-ltb a e (omega arith), ne_eqb a e (λ q. omega arith), le-ltb _ _ k)

tally_split : (a : ℕ → ℕ) (e k : ℕ) → tally (λ h. ltb (a h) e) k + tally (λ h. eqb (a h) e) k ≡ tally (λ h. ltb (a h) (e + 1)) k
tally_split a e zero = refl
tally_split a e (suc k) = omega (arith, tally_split a e k, one_split (a k) e)

module _ {n N : ℕ} {step back : ℕ → ℕ → ℕ} {parent last : ℕ → ℕ} {word : ℕ → List ℕ} {t : List ℕ} (few : n ≤ 8)
    (S : StoredTable t n N step back parent last word) (C : Columns n N step back) where
  abbrev Counts : List ℕ → ℕ → ℕ → Type 0
  Counts w e g = (r : ℕ) → r < N → get_or w r 0 ≡ tally (λ h. ltb (back r h) e) n + tally (λ h. eqb (back r h) e) g

  -- One arrival.
  arrive : (e : ℕ) (w : List ℕ) (g : ℕ) → e < N → g < n → N ≤ length w → Counts w e g
      → Counts (put_at w (step_of t n e g) (get_or w (step_of t n e g) 0 + 1)) e (suc g)
  arrive e w g he hg room c r hr = go (ℕ_discrete r s) where
    s : ℕ
    s = step_of t n e g

    go : Dec (r ≡ s) → get_or (put_at w s (get_or w s 0 + 1)) r 0 ≡ tally (λ h. ltb (back r h) e) n + (tally (λ h. eqb (back r h) e) g + one (eqb (back r g) e))
    go (yes q) =
        let b : back r g ≡ e = rw (q, step_is S he hg) (C.back_step he hg) in
        let small : get_or w r 0 + 1 < 4294967296 =
        omega (arith, c r hr, tally_most (λ h. ltb (back r h) e) n, tally_most (λ h. eqb (back r h) e) g) in
        rw (← q) (omega (arith, put_same w r (get_or w r 0 + 1) (omega arith) small, c r hr, ap one (eq-eqb _ _ b)))
    go (no d) =
        let b : back r g ≡ e → ⊥ = λ q. d (sym (C.step_back hr hg) ∙ ap (λ (x : ℕ). step x g) q ∙ sym (step_is S he hg)) in
        omega (arith, put_other w s (get_or w s 0 + 1) d, c r hr, ap one (ne_eqb _ _ b))

  row_counts : (k e : ℕ) (w : List ℕ) (g : ℕ) → e < N → g + k ≡ n → (0 < n → N ≤ length w) → Counts w e g → Counts (arrive_row k t n e w g) e n
  unfolding arrive_row
  row_counts zero e w g he end room c = let q : g ≡ n = omega arith in rw q at c
  row_counts (suc k) e w g he end room c =
      let s = step_of t n e g in
      let v = get_or w s 0 + 1 in
      row_counts k e (put_at w s v) (g + 1) he (omega arith) (λ pos. omega (arith, room pos, put_length w s v))
      (rw (add-one g) (arrive e w g he (omega arith) (room (omega arith)) c))

  -- The end of a row is the start of the next.
  next_row : (w : List ℕ) (e : ℕ) → Counts w e n → Counts w (e + 1) 0
  next_row w e c r hr = omega (arith, c r hr, tally_split (back r) e n)

  rows_counts : (k : ℕ) (w : List ℕ) (e : ℕ) → e + k ≡ N → (0 < n → N ≤ length w) → Counts w e 0 → Counts (arrivals k t n w e) N 0
  unfolding arrivals
  rows_counts zero w e end room c = let q : e ≡ N = omega arith in rw q at c
  rows_counts (suc k) w e end room c =
      let v = arrive_row n t n e w 0 in
      rows_counts k v (e + 1) (omega arith) (λ pos. omega (arith, room pos, row_length n t n e w 0))
      (next_row v e (row_counts n e w 0 (omega arith) (omega arith) room c))

  pub arrivals_right : (w : List ℕ) → (0 < n → N ≤ length w) → (r : ℕ) → r < N → get_or (counted t w n N) r 0 ≡ n
  arrivals_right w room r hr =
      let start : Counts (wiped N w 0) 0 0 = λ r hr.
      omega (arith, wiped_zero N w 0 (λ y hy. absurd (omega arith)) r (omega arith), tally_none (λ h. ltb (back r h) 0) n (λ h l. le-ltb (back r h) 0 (omega arith))) in
      omega (
        arith,
        rows_counts N (wiped N w 0) 0 (omega arith) (λ pos. omega (arith, room pos, wiped_length N w 0)) start r hr,
        tally_all (λ h. ltb (back r h) N) n (λ h l. lt-ltb _ _ (C.closed hr l)),
      )
