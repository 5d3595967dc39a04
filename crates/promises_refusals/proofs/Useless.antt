-- Document 01's useless versions, on every input: "refusing everything, and returning the one_element table each time, both break demand 2's definition;
-- returning with the buffers untouched breaks the contents asked after acceptance; enumerating only the first row and inventing the others breaks demand
-- 3. A made-up word length breaks the definition of the recorded word." (Inventing rows: `invented_row`.)
use Prim.Native.Nat.{ℕ, zero, suc, ◌+◌, ◌*◌, ◌≤◌, ◌<◌}
use mathlib.Core.Path.{◌≡◌, sym, ap, ◌∙◌}
use mathlib.Core.List.{List}
use native.Mathlib.Nat.{add-zero, zero-add, mul-le-mul}
use native.Mathlib.Omega.{arith}
use borrow.Author.Tests.{leb-true}
use lib.ListN.{length, get_or, drop, replicate, length-replicate, get_or-replicate}
use lib.Seq.{get_or-take, get_or-drop}
use Rattle.egg.specs.declared.Refusal.{Refusal}
use Rattle.egg.specs.declared.Factor.{Factor}
use Rattle.egg.specs.Answers.{Counted, Made, fine, answer_of}
use Rattle.std.specs.Prelude.{Ok, Err}
use Rattle.egg.specs.Table.{start_of}
use Rattle.egg.specs.Factor.{stretch}
use Rattle.egg.proofs.Rooms.{room_enough}
use Rattle.egg.proofs.Scans.{refused_fine}
use Rattle.build_lending.specs.Lending.{work_need, Making, making}
use Rattle.build_lending.proofs.Lending.{lent_enough}
use Rattle.factor.specs.Composed.{composed}
use Rattle.build_reading.specs.Reading.{composed_at}
use Rattle.factor.specs.Questions.{length_answer}
use Rattle.theory.specs.Words.{walk}
use Rattle.factor_laws.specs.Accepted.{Accepted, factor_step, factor_word}
use Rattle.factor_laws.proofs.Answers.{accepted_answers}
use Rattle.promises.specs.Composed.{Given}
use Rattle.build_laws.specs.Taken.{Taken}
use Rattle.build_laws.proofs.Lent.{within_cell}
use Rattle.promises.proofs.Composed.{composed_exactly, composed_given, begun}
use Rattle.promises_refusals.specs.Papers.{Enough}
use Rattle.promises_refusals.proofs.Composed.{lent_right_lem}

-- The first number of a factor's stretch.
stretch_first : (t : List ℕ) (f : Factor) → 1 ≤ f.room → get_or (stretch t f) (0 * (2 * f.generators + 4) + 0) 0 ≡ get_or t f.start 0
unfolding stretch
stretch_first t f h =
    let q : 0 * (2 * f.generators + 4) + 0 ≡ 0 = omega arith in
    let four : 1 ≤ 2 * f.generators + 4 = omega arith in
    let p : 0 < f.room * (2 * f.generators + 4) = mul-le-mul h four in
    rw q (get_or-take (f.room * (2 * f.generators + 4)) (drop f.start t) 0 0 p ∙ get_or-drop f.start t 0 0 ∙ rw add-zero)

same_count : {k l : ℕ} → ◌≡◌ {A = Counted} (Ok k) (Ok l) → k ≡ l
same_count h = cc

-- Whichever call made it, an accepted factor ..
module _ {t : List ℕ} {f : Factor} (A : Accepted t f) where
  -- .. has more elements than generators, since the identity row is 1..n: it is not always the one_element table;
  pub more_elements : f.generators < f.elements
  more_elements =
      go f.generators (λ g hg. rw (A.sound.identity_row_lem hg) at (A.sound.table.closed {e = 0} {g = g} A.sound.table.origin hg)) where
        go : (k : ℕ) → ((g : ℕ) → g < k → suc g < f.elements) → k < f.elements
        go zero below = A.sound.table.origin
        go (suc k) below = below k (omega arith)

  -- .. starts with the number 2: the first generator leads from the identity to 1, and a step is stored as one more than its number: a buffer that held
  -- anything else there is not untouched;
  pub first_number : 1 ≤ f.generators → get_or t f.start 0 ≡ 2
  unfolding start_of
  first_number some =
      let room : 1 ≤ f.room = omega (arith, room_enough (length t) f A.fits, more_elements) in
      sym (stretch_first t f room) ∙ A.sound.stored.successor {e = 0} {g = 0} A.sound.table.origin some ∙ ap suc (A.sound.identity_row_lem some)

  -- .. and answers no word's length but that of the recorded word, which leads to its element.
  pub made_up_length : {c : Counted} {e k : ℕ} → e < f.elements → c ≡ length_answer t f (record { 0 = e }) → c ≡ Ok k
      → (k ≡ length (factor_word t f e)) × (walk (factor_step t f) 0 (factor_word t f e) ≡ e)
  made_up_length he contract h =
      let a = (accepted_answers A).2 in
      (same_count (sym h ∙ contract ∙ a.lengths he), a.spells he)

module _ (table : List ℕ) (start : ℕ) (work rows : List ℕ) (n room : ℕ) {m : Made} {t w : List ℕ}
    (contract : making m t w ≡ composed table start work rows n room) where
  -- Whoever refuses rows that some group has by the numbering rule does not meet the contract.
  pub refusing_everything : {N : ℕ} {r : Refusal} → n ≤ 8 → Enough table start work rows n room → Taken (composed_at rows n) n room N → m ≡ Err r → ⊥
  refusing_everything {N} hn E G h =
      let a = (composed_exactly table start work rows n room hn (lent_right_lem table start work rows n room hn E) E.rows_long).1 (N, G) in
      let q : answer_of m ≡ fine = ap (λ (x : Making). elim x [ making m t w ↦ answer_of m ]) (contract ∙ a.3) in
      refused_fine (sym (ap (λ (x : Made). answer_of x) h) ∙ q)

  module _ {f : Factor} (accepted : m ≡ Ok f) where
    is_accepted : composed table start work rows n room ≡ making (Ok f) t w
    is_accepted = sym contract ∙ ap (λ (v : Made). making v t w) accepted

    given : Given table start work rows n room f t w
    given = composed_given table start work rows n room f t w is_accepted

    pub one_element_always : 1 ≤ n → f.elements ≡ 1 → ⊥
    one_element_always some one = omega (arith, more_elements given.accepted, ap (λ (f : Factor). f.generators) given.handle)

    pub table_untouched : 1 ≤ n → (get_or table start 0 ≡ 2 → ⊥) → t ≡ table → ⊥
    table_untouched some other h =
        let at : f.start ≡ start = ap (λ (f : Factor). f.start) given.handle in
        let first = first_number given.accepted (rw given.handle some) in
        other (ap (λ (l : List ℕ). get_or l start 0) (sym h) ∙ ap (λ (i : ℕ). get_or t i 0) (sym at) ∙ first)

    -- And the needed work is zero.
    pub work_number : (i : ℕ) → i < work_need n room → get_or w i 0 ≡ 0
    work_number i h =
        let B = begun table start work rows n room f t w is_accepted in
        let k = work_need n room in
        let long : k ≤ length work = leb-true _ _ (lent_enough (length table) start (length work) room n B.lent) in
        let c = within_cell work 0 k (rw (zero-add k) long) (replicate k 0) (length-replicate k _) i h in
        rw given.work_zero (simp zero-add at c ∙ get_or-replicate k i 0 0 h)

    pub work_untouched : (i : ℕ) → i < work_need n room → (get_or work i 0 ≡ 0 → ⊥) → w ≡ work → ⊥
    work_untouched i h other q = other (ap (λ (l : List ℕ). get_or l i 0) (sym q) ∙ work_number i h)
