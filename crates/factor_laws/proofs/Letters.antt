-- The written word is the recorded one: its letters are read from the last to the first, five from one row, and each is a generator's number and so a byte.
use Prim.Native.Nat.{ℕ, zero, suc, ◌+◌, ◌≤◌, ◌<◌}
use mathlib.Core.Path.{◌≡◌, sym, ap, ◌∙◌}
use mathlib.Core.List.{List, [], ◌∷◌, ◌++◌, append_assoc}
use native.Mathlib.Nat.{mod-eq_of_lt, zero-add}
use native.Mathlib.Omega.{arith}
use borrow.Author.Tests.{le-ltb}
use lib.ListN.{length, drop, set, length-set}
use Rattle.std.specs.Prelude.{Ok}
use Rattle.egg.specs.Table.{parent_of, last_of, length_of}
use Rattle.factor_words.specs.Words.{length_in, spell_by, spell_from, spell, write_in}
use Rattle.factor_words.proofs.Words.{drop_set_here}
use Rattle.build_word_cells.specs.Hops.{hop_from, Hops}
use Rattle.build_word_cells.proofs.Hops.{hop_element, hop_letter, hop_before}
use Rattle.theory_products.specs.Product.{shift}
use Rattle.theory_products.proofs.WordLaws.{shift_append, shift_zero}
use Rattle.build_checks_laws.specs.Stored.{word_of}
use Rattle.build_checks_laws.specs.Sound.{Sound, Ruled}
use Rattle.factor_laws.proofs.Steps.{no_letters, rest_of, not_first, parent_length, parent_below, word_readable}

module _ {s : List ℕ} {n N : ℕ} (S : Sound s n N) where
  pub length_in_lem : {e : ℕ} → e < N → length_in s n e ≡ Ok (length (word_of s n e))
  unfolding length_in
  length_in_lem {e} he = simp (le-ltb _ _ (S.short he)) (ap Ok (S.stored.lengths he))

  -- Where the rows have five letters each.
  module _ (R : Ruled s n N) (H : Hops s n N) (few : N ≤ 65535) where
    pub write_in_lem : {e : ℕ} (size : ℕ) → e < N → length (word_of s n e) ≤ size → write_in s n N e size ≡ Ok (length (word_of s n e))
    unfolding write_in
    write_in_lem {e} size he room =
        let q = S.stored.lengths he in
        let fits : length_of s n e ≤ size = omega arith in
        simp (le-ltb _ _ (S.short he), le-ltb _ _ fits, word_readable S R H few (length_of s n e) he q) (ap Ok q)

  module _ (H : Hops s n N) (few : N ≤ 65535) where
    -- Each letter moved up by o, as behind factors that have o generators together.
    module _ (o : ℕ) (small : o + n ≤ 256) where
      -- The last letter of a word, behind those before it.
      one_spelled : (k : ℕ) {e : ℕ} (out : List ℕ) {x : List ℕ} → 0 < e → e < N → k < length out
          → x ≡ shift o (word_of s n (parent_of s n e)) ++ drop k (set out k (o + last_of s n e)) → x ≡ shift o (word_of s n e) ++ drop (suc k) out
      one_spelled k {e} out pos he room p =
          p
          ∙ rw (drop_set_here out k (o + last_of s n e) room, S.recorded.grow pos he, shift_append)
          (sym (append_assoc (shift o (word_of s n (parent_of s n e))) ((o + last_of s n e) ∷ []) (drop (suc k) out)))

      spelled_by : (k j : ℕ) {e : ℕ} (out : List ℕ) → e < N → k ≡ length (word_of s n e) → k ≤ length out
          → spell_by k j s n (hop_from j s n e) 0 o out ≡ shift o (word_of s n e) ++ drop k out
      unfolding spell_by
      spelled_by zero j {e} out he q room = rw (no_letters (word_of s n e) q)
      spelled_by (suc k) zero {e} out he q room =
          let pos = not_first S e q in
          let byte : o + last_of s n e < 256 = omega (arith, S.parents.generator pos he) in
          one_spelled k out pos he room
          (rw (hop_element s n e (omega arith), rest_of H he, zero-add k, mod-eq_of_lt byte)
          (spelled_by k 4 (set out k (o + last_of s n e)) (parent_below S pos he) (parent_length S pos he q) (rw (length-set out k (o + last_of s n e)) (omega arith))))
      spelled_by (suc k) (suc j) {e} out he q room =
          let pos = not_first S e q in
          let byte : o + last_of s n e < 256 = omega (arith, S.parents.generator pos he) in
          one_spelled k out pos he room
          (rw (hop_letter j s n e, hop_before j s n e, zero-add k, mod-eq_of_lt byte)
          (spelled_by k j (set out k (o + last_of s n e)) (parent_below S pos he) (parent_length S pos he q) (rw (length-set out k (o + last_of s n e)) (omega arith))))

      pub spelled : (k : ℕ) {e : ℕ} (out : List ℕ) → e < N → k ≡ length (word_of s n e) → k ≤ length out
          → spell_from k s n e 0 o out ≡ shift o (word_of s n e) ++ drop k out
      spelled k {e} out he q room = rw (hop_element s n e (omega arith)) at (spelled_by k 0 out he q room)

    pub spell_word : n ≤ 8 → (k : ℕ) {e : ℕ} (out : List ℕ) → e < N → k ≡ length (word_of s n e) → k ≤ length out
        → spell k s n e out ≡ word_of s n e ++ drop k out
    spell_word eight k {e} out he q room = spelled 0 (omega arith) k out he q room ∙ ap (λ (w : List ℕ). w ++ drop k out) (shift_zero (word_of s n e))
