-- Two tables with the same numbers at each place of each row hold the same numbers in every cell of these rows.
use Prim.Native.Nat.{ℕ, zero, suc, ◌+◌, ◌*◌, ◌-◌, ◌/◌, ◌%◌, ◌<◌}
use mathlib.Core.Path.{◌≡◌, refl, sym}
use mathlib.Core.Bool.{Bool, true, false}
use mathlib.Core.List.{List}
use native.Mathlib.Nat.{div-add-mod', div-lt_iff_lt-mul, mod-lt}
use native.Mathlib.Omega.{arith}
use borrow.Author.Tests.{ltb-true, ltb-false}
use lib.Dec.{ltb}
use lib.ListN.{get_or}
use Rattle.egg.specs.Table.{start_of, parent_of, hop_of, length_of, inverse_of}

pub record SameRows (s s' : List ℕ) (n N : ℕ) : Type 0 where
  pub successors : (e g : ℕ) → e < N → g < n → get_or s' (start_of n e + g) 0 ≡ get_or s (start_of n e + g) 0
  pub predecessors : (e g : ℕ) → e < N → g < n → get_or s' (start_of n e + n + g) 0 ≡ get_or s (start_of n e + n + g) 0
  pub parents : (e : ℕ) → e < N → parent_of s' n e ≡ parent_of s n e
  pub hops : (e : ℕ) → e < N → hop_of s' n e ≡ hop_of s n e
  pub lengths : (e : ℕ) → e < N → length_of s' n e ≡ length_of s n e
  pub inverses : (e : ℕ) → e < N → inverse_of s' n e ≡ inverse_of s n e

module _ {s s' : List ℕ} {n N : ℕ} (R : SameRows s s' n N) where
  at : {i : ℕ} (j : ℕ) → i ≡ j → get_or s' j 0 ≡ get_or s j 0 → get_or s' i 0 ≡ get_or s i 0
  at j q h = rw q h

  -- The four numbers at a row's end, then the others.
  end_same : (e : ℕ) → e < N → (k : ℕ) → k < 4 → get_or s' (start_of n e + 2 * n + k) 0 ≡ get_or s (start_of n e + 2 * n + k) 0
  end_same e he zero hk = at (start_of n e + 2 * n) (omega arith) (R.parents e he)
  end_same e he (suc zero) hk = at (start_of n e + 2 * n + 1) (omega arith) (R.hops e he)
  end_same e he (suc (suc zero)) hk = at (start_of n e + 2 * n + 2) (omega arith) (R.lengths e he)
  end_same e he (suc (suc (suc zero))) hk = at (start_of n e + 2 * n + 3) (omega arith) (R.inverses e he)
  end_same e he (suc (suc (suc (suc k)))) hk = absurd (omega arith)

  row_same : (e j : ℕ) → e < N → j < 2 * n + 4 → get_or s' (start_of n e + j) 0 ≡ get_or s (start_of n e + j) 0
  row_same e j he hj = by (ltb j n) refl (ltb j (2 * n)) refl where
    by : (a : Bool) → ltb j n ≡ a → (b : Bool) → ltb j (2 * n) ≡ b → get_or s' (start_of n e + j) 0 ≡ get_or s (start_of n e + j) 0
    by true p b q = R.successors e j he (ltb-true j n p)
    by false p true q =
        let lo = ltb-false j n p in
        let hg : j - n < n = omega (arith, ltb-true j (2 * n) q) in
        at (start_of n e + n + (j - n)) (omega arith) (R.predecessors e (j - n) he hg)
    by false p false q =
        let lo = ltb-false j (2 * n) q in
        at (start_of n e + 2 * n + (j - 2 * n)) (omega arith) (end_same e he (j - 2 * n) (omega arith))

  pub same_cells : (i : ℕ) → i < N * (2 * n + 4) → get_or s' i 0 ≡ get_or s i 0
  unfolding start_of
  same_cells i hi =
      let pos : 0 < 2 * n + 4 = omega arith in
      at (start_of n (i / (2 * n + 4)) + i % (2 * n + 4)) (sym (div-add-mod' i (2 * n + 4)))
      (row_same (i / (2 * n + 4)) (i % (2 * n + 4)) ((div-lt_iff_lt-mul pos).1 hi) (mod-lt i pos))
