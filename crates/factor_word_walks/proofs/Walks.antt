-- Laws of the walks by letters, one for each answer, by the tests that lead to it.
use Prim.Native.Nat.{ℕ, suc, ◌+◌, ◌-◌, ◌/◌, ◌%◌, ◌≤◌, ◌<◌}
use mathlib.Core.Path.{◌≡◌, refl, sym, ap, ◌∙◌}
use mathlib.Core.Bool.{Bool, true, false}
use mathlib.Core.List.{List}
use native.Mathlib.Nat.{zero-add}
use native.Mathlib.Numerals.{add-one}
use native.Mathlib.Omega.{arith}
use borrow.Author.Tests.{eq-eqb, ne_eqb, lt-ltb, le-ltb, le-leb, lt-leb}
use lib.ListN.{length, get_or, take, drop, drop_of_length-le}
use lib.Seq.{drop-cons}
use Rattle.egg.specs.declared.Refusal.{Refusal}
use Rattle.egg.specs.declared.GroupElementId.{GroupElementId}
use Rattle.egg.specs.Answers.{Reached}
use Rattle.std.specs.Prelude.{Ok, Err}
use Rattle.egg.specs.Table.{start_of, hop_of}
use Rattle.egg.specs.Factor.{refused_reach, read_step}
use Rattle.build_word_cells.specs.Hops.{without}
use Rattle.build_word_cells.proofs.Hops.{five_off}
use Rattle.factor_word_letters.specs.Spell.{cell_within, readable, spell}
use Rattle.factor_word_letters.proofs.Letters.{letters_taken}
use Rattle.factor_word_walks.specs.Letters.{LettersBack}
use Rattle.factor_word_walks.specs.Walks.{follow, along, read_step_back, back_by, back_along}
use Rattle.egg.specs.Answers.{on_reached}

-- Going on from an element, and not from a refusal.
module _ {v w : Reached} (q : v ≡ w) (f : ℕ → Reached) where
  pub on_refused : {r : Refusal} → v ≡ Err r → Err r ≡ on_reached w f
  on_refused e = rw (← q, e)

  pub on_element_lem : {x : GroupElementId} → v ≡ Ok x → f x.0 ≡ on_reached w f
  on_element_lem e = rw (← q, e)

-- Along a list of letters, from a place in it on.
module _ (s : List ℕ) (n count x : ℕ) (w : List ℕ) (i : ℕ) where
  pub follow_end : length w ≤ i → Ok (record { 0 = x }) ≡ follow s n count x (drop i w)
  unfolding follow
  follow_end h = rw (drop_of_length-le w h)

  module _ (h : i < length w) {g : ℕ} (q : g ≡ get_or w i 0) {v : Reached} (p : v ≡ read_step s n count x g) where
    pub follow_stops : {r : Refusal} → v ≡ Err r → Err r ≡ follow s n count x (drop i w)
    unfolding follow
    follow_stops e = rw (drop-cons w i 0 h, ← q, ← p, e)

    pub follow_on : {y : GroupElementId} → v ≡ Ok y → follow s n count y.0 (drop (i + 1) w) ≡ follow s n count x (drop i w)
    unfolding follow
    follow_on e = rw (add-one, drop-cons w i 0 h, ← q, ← p, e)

-- Along a recorded word: its letters are read, and walked.
module _ (s : List ℕ) (n count from e k : ℕ) {b : Bool} (p : b ≡ readable k s n count e) where
  pub along_unread : b ≡ false → refused_reach 17 0 ≡ along k s n count from e
  unfolding along
  along_unread z = rw (← p, z)

  pub along_read : b ≡ true → (held : List ℕ) {l : List ℕ} → k + 4 ≤ length held → l ≡ spell k s n e (drop 4 held)
      → follow s n count from (take (k + 4 - 4) l) ≡ along k s n count from e
  unfolding along
  along_read z held h q = rw (letters_taken s n k e held h q, ← p, z)

module _ (s : List ℕ) (n count e g : ℕ) {x : ℕ} (q : x ≡ get_or s (start_of n e + n + g) 0) where
  pub back_missing : x ≡ 0 → refused_reach 17 0 ≡ read_step_back s n count e g
  unfolding read_step_back
  back_missing z = rw (← q) (simp (eq-eqb _ _ z))

  pub back_beyond : (x ≡ 0 → ⊥) → count < x → refused_reach 17 0 ≡ read_step_back s n count e g
  unfolding read_step_back
  back_beyond z h = rw (← q) (simp (ne_eqb _ _ z, lt-ltb _ _ h))

  pub back_element : (x ≡ 0 → ⊥) → x ≤ count → Ok (record { 0 = x - 1 }) ≡ read_step_back s n count e g
  unfolding read_step_back
  back_element z h = rw (← q) (simp (ne_eqb _ _ z, le-ltb _ _ h))

-- Back along the letters in a number, one by one.
module _ (s : List ℕ) (n count x c : ℕ) where
  pub letters_end : {left : ℕ} → left ≤ 0 → LettersBack s n count x c left (Ok (record { 0 = x }))
  unfolding without
  letters_end {left} h = let d : left ≡ 0 = omega arith in record { leads = λ more j. rw (d, zero-add more, zero-add j) }

  module _ {left : ℕ} (k : 0 < left) {v : Reached} (u : v ≡ read_step_back s n count x (c % 8)) where
    letter_back : (more j : ℕ) → back_by (left + more) (left + j) s n count x c ≡ on_reached v (λ y. back_by (left - 1 + more) (left - 1 + j) s n count y (c / 8))
    unfolding back_by
    letter_back more j =
        let d : left + more ≡ suc (left - 1 + more) = omega arith in
        let e : left + j ≡ suc (left - 1 + j) = omega arith in
        ap (λ (l : ℕ). back_by l (left + j) s n count x c) d ∙ ap (λ (l : ℕ). back_by (suc (left - 1 + more)) l s n count x c) e ∙ rw u

    pub letters_refused : {r : Refusal} → v ≡ Err r → LettersBack s n count x c left (Err r)
    letters_refused m = record { leads = λ more j. letter_back more j ∙ rw m }

    pub letters_more : {y : GroupElementId} {r : Reached} → v ≡ Ok y → LettersBack s n count y.0 (c / 8) (left - 1) r → LettersBack s n count x c left r
    unfolding without
    letters_more {r = r} m L = record {
      leads = λ more j.
          let d : left ≡ suc (left - 1) = omega arith in
          letter_back more j ∙ rw m (L.leads more j ∙ ap (λ (l : ℕ). on_reached r (λ y. back_by more j s n count y (without l c))) (sym d));
    }

    pub letters_next : {fewer : ℕ} → fewer ≡ left - 1 → {y : GroupElementId} {r : Reached} → v ≡ Ok y → LettersBack s n count y.0 (c / 8) fewer r → LettersBack s n count x c left r
    letters_next q m L = letters_more m (rw (← q) L)

-- No step after the last.
no_more : (r : Reached) → on_reached r (λ x. Ok (record { 0 = x })) ≡ r
no_more (Ok x) = refl
no_more (Err r) = refl

-- Back along a word, row by row.
module _ (s : List ℕ) (n count x e : ℕ) where
  pub back_end : {left : ℕ} → left ≤ 0 → Ok (record { 0 = x }) ≡ back_along left s n count x e
  unfolding back_by
  back_end {left} h = let d : left ≡ 0 = omega arith in rw d

  pub back_outside : {left : ℕ} → 0 < left → count ≤ e → refused_reach 17 0 ≡ back_along left s n count x e
  unfolding back_by
  back_outside {left} k h = let d : left ≡ suc (left - 1) = omega arith in rw d (simp (le-leb _ _ h))

  module _ (h : e < count) {c : ℕ} (q : c ≡ hop_of s n e) where
    pub back_cell : {left : ℕ} → 0 < left → cell_within n count c ≡ false → refused_reach 17 0 ≡ back_along left s n count x e
    unfolding back_by
    back_cell {left} k z = let d : left ≡ suc (left - 1) = omega arith in rw d (simp (lt-leb _ _ h) (rw (← q, z)))

  module _ (h : e < count) {c : ℕ} (q : c ≡ hop_of s n e) (t : cell_within n count c ≡ true) where
    row_back : {left : ℕ} → 0 < left → back_by left 5 s n count x c ≡ back_along left s n count x e
    unfolding back_by
    row_back {left} k = let d : left ≡ suc (left - 1) = omega arith in rw d (simp (lt-leb _ _ h) (rw (← q, t)))

    pub row_last : {left : ℕ} {v : Reached} → (left ≡ 0 → ⊥) → left ≤ 5 → LettersBack s n count x c left v → v ≡ back_along left s n count x e
    unfolding back_by
    row_last {left} {v} some l L =
        let d : left + 0 ≡ left = omega arith in
        let f : left + (5 - left) ≡ 5 = omega arith in
        let k : 0 < left = omega arith in
        sym (no_more v) ∙ sym (L.leads 0 (5 - left)) ∙ rw (d, f) (row_back k)

    module _ {left : ℕ} (m : 5 < left) {v : Reached} (L : LettersBack s n count x c 5 v) where
      row_leads : on_reached v (λ y. back_along (left - 5) s n count y (c / 32768)) ≡ back_along left s n count x e
      row_leads =
          let d : 5 + (left - 5) ≡ left = omega arith in
          let k : 0 < left = omega arith in
          rw (← five_off c) (sym (L.leads (left - 5) 0) ∙ rw d (row_back k))

      pub row_refused : {r : Refusal} → v ≡ Err r → Err r ≡ back_along left s n count x e
      row_refused p = on_refused refl _ p ∙ row_leads

      pub row_more : {y : GroupElementId} → v ≡ Ok y → back_along (left - 5) s n count y.0 (c / 32768) ≡ back_along left s n count x e
      row_more p = on_element_lem refl _ p ∙ row_leads
