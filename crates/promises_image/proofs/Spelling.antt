-- Numbers spelled in two bytes and read again, and tables written out in rows and read again.
use Prim.Native.Nat.{ℕ, zero, suc, ◌+◌, ◌*◌, ◌-◌, ◌/◌, ◌%◌, ◌≤◌, ◌<◌}
use mathlib.Core.Path.{◌≡◌, refl, sym, ap, ◌∙◌}
use mathlib.Core.List.{List, [], ◌∷◌, ◌++◌}
use native.Mathlib.Nat.{mul-le-mul, le_refl}
use native.Mathlib.Omega.{arith}
use lib.ListN.{length, get_or, drop, get_or-append}
use lib.Seq.{get_or-append-add, drop-cons, drop-length}
use Rattle.build_reading.specs.Reading.{composed_at}
use Rattle.image_cells.specs.Cells.{spell2, halves}
use Rattle.image_writing.specs.Written.{row_numbers, rows_of, spelled_bytes}
use Rattle.image_writing.proofs.Bytes.{row_length}

-- Numbers of 16 bits are read as they were spelled.
pub halves_spelled : (l : List ℕ) → ((i : ℕ) → get_or l i 0 < 65536) → halves (spelled_bytes l) ≡ l
unfolding halves spelled_bytes
halves_spelled [] p = refl
halves_spelled (v ∷ r) p =
    let h : v < 65536 = p 0 in
    let q : spell2 (v / 256 % 256) (v % 256) ≡ v = omega arith in
    rw (q, halves_spelled r (λ i. p (suc i)))

-- And bytes are spelled as they were read.
pub spelled_halves : (b : List ℕ) → ((i : ℕ) → get_or b i 0 < 256) → (k : ℕ) → length b ≡ 2 * k → spelled_bytes (halves b) ≡ b
unfolding halves spelled_bytes
spelled_halves [] p k e = refl
spelled_halves (a ∷ []) p k e = absurd (omega arith)
spelled_halves (a ∷ b ∷ r) p k e =
    let ha : a < 256 = p 0 in
    let hb : b < 256 = p 1 in
    let qa : spell2 a b / 256 % 256 ≡ a = omega arith in
    let qb : spell2 a b % 256 ≡ b = omega arith in
    rw (qa, qb, spelled_halves r (λ i. p (suc (suc i))) (k - 1) (omega arith))

-- What stands where in rows written out.
pub row_at : (k : ℕ) (src : ℕ → ℕ → ℕ) (e g i : ℕ) → i < k → get_or (row_numbers k src e g) i 0 ≡ src e (g + i)
unfolding row_numbers
row_at zero src e g i h = absurd (omega arith)
row_at (suc k) src e g zero h = let q : g + 0 ≡ g = omega arith in rw q
row_at (suc k) src e g (suc i) h = let q : g + 1 + i ≡ g + suc i = omega arith in rw (← q) (row_at k src e (g + 1) i (omega arith))

rows_at : (k : ℕ) (src : ℕ → ℕ → ℕ) (n e d g : ℕ) → d < k → g < n → get_or (rows_of k src n e) (d * n + g) 0 ≡ src (e + d) g
unfolding rows_of
rows_at zero src n e d g hd hg = absurd (omega arith)
rows_at (suc k) src n e zero g hd hg =
    let z : 0 * n + g ≡ g = omega arith in
    let y : e + 0 ≡ e = omega arith in
    let x : 0 + g ≡ g = omega arith in
    rw (z, y) (get_or-append (row_numbers n src e 0) (rows_of k src n (e + 1)) 0 g (rw (row_length n src e 0) hg) ∙ row_at n src e 0 g hg ∙ ap (src e) x)
rows_at (suc k) src n e (suc d) g hd hg =
    let z : suc d * n + g ≡ length (row_numbers n src e 0) + (d * n + g) = rw (row_length n src e 0) (omega arith) in
    let y : e + 1 + d ≡ e + suc d = omega arith in
    rw (z, ← y) (get_or-append-add (row_numbers n src e 0) (rows_of k src n (e + 1)) (d * n + g) 0 ∙ rows_at k src n (e + 1) d g (omega arith) hg)

pub rows_entry : (N : ℕ) (src : ℕ → ℕ → ℕ) (n : ℕ) {e g : ℕ} → e < N → g < n → composed_at (rows_of N src n 0) n e g ≡ src e g
rows_entry N src n {e} {g} he hg = let z : 0 + e ≡ e = omega arith in rows_at N src n 0 e g he hg ∙ ap (λ (x : ℕ). src x g) z

-- Only what is in the table has a say.
module _ (src src' : ℕ → ℕ → ℕ) (n N : ℕ) (same : (e g : ℕ) → e < N → g < n → src e g ≡ src' e g) where
  row_same : (k e g : ℕ) → e < N → g + k ≤ n → row_numbers k src e g ≡ row_numbers k src' e g
  unfolding row_numbers
  row_same zero e g he hg = refl
  row_same (suc k) e g he hg = rw (same e g he (omega arith), row_same k e (g + 1) he (omega arith))

  rows_from : (k e : ℕ) → e + k ≤ N → rows_of k src n e ≡ rows_of k src' n e
  unfolding rows_of
  rows_from zero e h = refl
  rows_from (suc k) e h = rw (row_same n e 0 (omega arith) (omega arith), rows_from k (e + 1) (omega arith))

  pub rows_same : rows_of N src n 0 ≡ rows_of N src' n 0
  rows_same = rows_from N 0 (omega arith)

-- Numbers that are all small.
pub append_small : (a b : List ℕ) (m : ℕ) → ((i : ℕ) → get_or a i 0 < m) → ((i : ℕ) → get_or b i 0 < m) → (i : ℕ) → get_or (a ++ b) i 0 < m
append_small [] b m p q i = q i
append_small (v ∷ a) b m p q zero = p 0
append_small (v ∷ a) b m p q (suc i) = append_small a b m (λ j. p (suc j)) q i

module _ (src : ℕ → ℕ → ℕ) (n N m : ℕ) (pos : 0 < m) (small : (e g : ℕ) → e < N → g < n → src e g < m) where
  pub row_small : (k e g : ℕ) → e < N → g + k ≤ n → (i : ℕ) → get_or (row_numbers k src e g) i 0 < m
  unfolding row_numbers
  row_small zero e g he hg i = pos
  row_small (suc k) e g he hg zero = small e g he (omega arith)
  row_small (suc k) e g he hg (suc i) = row_small k e (g + 1) he (omega arith) i

  rows_below : (k e : ℕ) → e + k ≤ N → (i : ℕ) → get_or (rows_of k src n e) i 0 < m
  unfolding rows_of
  rows_below zero e h i = pos
  rows_below (suc k) e h i =
      append_small (row_numbers n src e 0) (rows_of k src n (e + 1)) m (row_small n e 0 (omega arith) (omega arith)) (rows_below k (e + 1) (omega arith)) i

  pub rows_small : (i : ℕ) → get_or (rows_of N src n 0) i 0 < m
  rows_small = rows_below N 0 (omega arith)

-- A list of rows, written out again.
module _ (l : List ℕ) (n : ℕ) where
  row_again : (k e g : ℕ) → e * n + g + k ≤ length l → row_numbers k (composed_at l n) e g ++ drop (e * n + g + k) l ≡ drop (e * n + g) l
  unfolding row_numbers
  row_again zero e g h = let z : e * n + g + 0 ≡ e * n + g = omega arith in rw z
  row_again (suc k) e g h =
      let z : e * n + g + suc k ≡ e * n + (g + 1) + k = omega arith in
      let y : e * n + (g + 1) ≡ suc (e * n + g) = omega arith in
      rw (drop-cons l (e * n + g) 0 (omega arith), z)
      (ap (λ (r : List ℕ). get_or l (e * n + g) 0 ∷ r) (row_again k e (g + 1) (omega arith) ∙ rw y))

  rows_again_from : (k e : ℕ) → (e + k) * n ≡ length l → rows_of k (composed_at l n) n e ≡ drop (e * n) l
  unfolding rows_of
  rows_again_from zero e h = let z : e * n ≡ length l = omega arith in rw z (sym (drop-length l))
  rows_again_from (suc k) e h =
      let z : (e + 1) * n ≡ e * n + 0 + n = omega arith in
      let y : e * n + 0 ≡ e * n = omega arith in
      rw (rows_again_from k (e + 1) (omega arith), z) (row_again n e 0 (omega (arith, mul-le-mul (le_refl (k * n)) (le_refl 1))) ∙ rw y)

  pub rows_again : (N : ℕ) → N * n ≡ length l → rows_of N (composed_at l n) n 0 ≡ l
  rows_again N h = let z : 0 * n ≡ 0 = omega arith in let y : (0 + N) * n ≡ N * n = omega arith in rows_again_from N 0 (y ∙ h) ∙ rw z
