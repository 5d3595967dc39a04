-- Laws of the recorded words, one for each answer, by the tests that lead to it.
use Prim.Native.Nat.{ℕ, ◌+◌, ◌-◌, ◌≤◌, ◌<◌}
use mathlib.Core.Path.{◌≡◌, refl, sym}
use mathlib.Core.Bool.{Bool, true, false}
use mathlib.Core.List.{List, ◌++◌}
use native.Mathlib.Omega.{arith}
use borrow.Author.Tests.{lt-ltb, le-ltb, ltb-true, ltb-false}
use lib.ListN.{length, take, drop}
use lib.Dec.{ltb}
use Rattle.egg.specs.declared.Refusal.{Refusal}
use Rattle.egg.specs.Answers.{Counted}
use Rattle.egg.specs.Refusals.{numbered}
use Rattle.std.specs.Prelude.{Ok, Err}
use Rattle.egg.specs.Table.{length_of}
use Rattle.factor_word_letters.specs.Spell.{readable, spell}
use Rattle.factor_word_letters.proofs.Letters.{letters_spelled, letters_taken}
pub use Rattle.factor_word_letters.proofs.Letters.{drop_set_here}
use Rattle.factor_words.specs.Words.{length_in, write_in, written_by}

module _ (s : List ℕ) (n e : ℕ) {len : ℕ} (q : len ≡ length_of s n e) where
  pub length_long : 4096 < len → Err (numbered 17 0 0 0) ≡ length_in s n e
  unfolding length_in
  length_long h = rw (← q) (simp (lt-ltb _ _ h))

  pub length_count : len ≤ 4096 → Ok len ≡ length_in s n e
  unfolding length_in
  length_count h = rw (← q) (simp (le-ltb _ _ h))

pub spell_copied : (s : List ℕ) (n k e : ℕ) (held out : List ℕ) {l copied : List ℕ} → k + 4 ≤ length held → k ≤ length out → l ≡ spell k s n e (drop 4 held)
    → copied ≡ take (k + 4 - 4) l → copied ++ drop k out ≡ spell k s n e out
spell_copied s n k e held out h r p q = rw (q, letters_taken s n k e held h p) (sym (letters_spelled s n k 0 e out r))

module _ (s : List ℕ) (n count e size : ℕ) {len : ℕ} (q : len ≡ length_of s n e) where
  pub write_long : 4096 < len → write_in s n count e size ≡ Err (numbered 17 0 0 0)
  unfolding write_in
  write_long h = rw (← q) (simp (lt-ltb _ _ h))

  module _ (h : len ≤ 4096) where
    pub write_short : size < len → write_in s n count e size ≡ Err (numbered 4 0 0 0)
    unfolding write_in
    write_short k = rw (← q) (simp (le-ltb _ _ h, lt-ltb _ _ k))

    module _ (k : len ≤ size) where
      pub write_unread : readable len s n count e ≡ false → write_in s n count e size ≡ Err (numbered 17 0 0 0)
      unfolding write_in
      write_unread z = rw (← q) (simp (le-ltb _ _ h, le-ltb _ _ k) (rw z))

      pub write_count_lem : readable len s n count e ≡ true → write_in s n count e size ≡ Ok len
      unfolding write_in
      write_count_lem z = rw (← q) (simp (le-ltb _ _ h, le-ltb _ _ k) (rw z))

-- The answer and what the buffer holds, both by the answer.
pub wrote : (s : List ℕ) (n e : ℕ) (out : List ℕ) {w r x : Counted} {o : List ℕ} → w ≡ r → x ≡ r → o ≡ written_by r s n e out
    → (x ≡ w) × (o ≡ written_by w s n e out)
wrote s n e out q p h = rw q (p, h)

-- A count is no refusal, and counts that are equal count the same.
pub never_both : {v : Counted} {r : Refusal} {k : ℕ} → v ≡ Err r → v ≡ Ok k → ⊥
never_both q e = let z : ◌≡◌ {A = ℕ} 0 1 = cc in omega arith

pub same_count : {k m : ℕ} → ◌≡◌ {A = Counted} (Ok k) (Ok m) → k ≡ m
same_count q = cc

-- A word that was written had room.
pub write_fits : (s : List ℕ) (n count e size : ℕ) {k : ℕ} → write_in s n count e size ≡ Ok k → k ≤ size
write_fits s n count e size {k} h = by (ltb 4096 (length_of s n e)) (ltb size (length_of s n e)) (readable (length_of s n e) s n count e) refl refl refl where
  by : (b d r : Bool) → ltb 4096 (length_of s n e) ≡ b → ltb size (length_of s n e) ≡ d → readable (length_of s n e) s n count e ≡ r → k ≤ size
  by true d r p q z = absurd (never_both (write_long s n count e size refl (ltb-true _ _ p)) h)
  by false true r p q z = absurd (never_both (write_short s n count e size refl (ltb-false _ _ p) (ltb-true _ _ q)) h)
  by false false false p q z = absurd (never_both (write_unread s n count e size refl (ltb-false _ _ p) (ltb-false _ _ q) z) h)
  by false false true p q z =
      let w : write_in s n count e size ≡ Ok (length_of s n e) = write_count_lem s n count e size refl (ltb-false _ _ p) (ltb-false _ _ q) z in
      let d : k ≡ length_of s n e = cc in
      omega (arith, ltb-false size (length_of s n e) q)
