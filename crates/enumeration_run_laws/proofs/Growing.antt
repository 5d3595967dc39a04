-- A new element: its word is its parent's and one generator, and all that was right stays so.
use Prim.Native.Nat.{ℕ, ◌+◌, ◌*◌, ◌<◌, ◌≤◌}
use mathlib.Core.Path.{◌≡◌, refl, ◌∙◌}
use mathlib.Core.Logic.{◌⊎◌, ⊎_elim}
use mathlib.Core.List.{List, [], ◌∷◌, ◌++◌}
use native.Mathlib.Omega.{arith}
use borrow.Author.Tests.{eq-eqb, ne_eqb}
use lib.ListN.{get_or, length}
use lib.Dec.{eqb}
use Rattle.theory.specs.Presentation.{same}
use Rattle.theory.proofs.BoundedTests.{below_suc}
use Rattle.egg.specs.declared.GroupElementId.{GroupElementId}
use Rattle.egg.specs.declared.GeneratorId.{GeneratorId}
use Rattle.egg.specs.Table.{pick, put_at, start_of, parent_of, last_of}
use Rattle.build_reading.specs.Build.{set_step, set_word}
use Rattle.enumeration_rows.specs.declared.inner.RelationTableRow.{RelationTableRow}
use Rattle.enumeration_run_laws.specs.Invariant.{Step, Marked, RecordsWords, TableOk, RowOk, WorkOk}
use Rattle.egg.proofs.Cells.{put_same, put_other, put_length}
use Rattle.enumeration_run_laws.proofs.Cells.{put_keeps}
use Rattle.enumeration_run_laws.proofs.Rowing.{step_back}
use Rattle.enumeration_run_laws.proofs.Marking.{row_is, cell_is, set_ok}

-- What is right for some elements and their words is right for other words that agree with them, and more elements.
module _ {n : ℕ} {m : ℕ → ℕ → ℕ} {word word' : ℕ → List ℕ} {count count' : ℕ} (more : count ≤ count') (agree : (x : ℕ) → x < count → word' x ≡ word x) where
  pub step_more : {e g r : ℕ} → Step n m word count e g r → Step n m word' count' e g r
  step_more {e} {g} {r} s = record {
    from_below = omega (arith, s.from_below);
    to_below = omega (arith, s.to_below);
    leads = rw (agree e s.from_below, agree r s.to_below) s.leads;
  }

  marked_more : {i v : ℕ} → Marked n m word count i v → Marked n m word' count' i v
  marked_more M = record {
    inside = λ e k h q z. let b = M.inside e k h q z in omega arith;
    succ = λ e g r h q v. step_more (M.succ e g r h q v);
    back = λ e g r h q v. step_more (M.back e g r h q v);
  }

  row_more : {r : RelationTableRow} → RowOk n m word count r → RowOk n m word' count' r
  row_more {r} ok = record {
    small = ok.small;
    wide = ok.wide;
    order = ok.order;
    gens = ok.gens;
    from_below = omega (arith, ok.from_below);
    to_below = omega (arith, ok.to_below);
    leads = rw (agree r.from.0 ok.from_below, agree r.to.0 ok.to_below) ok.leads;
  }

  pub work_more : {S : ℕ → Type 0} {w : List ℕ} → WorkOk n m word count S w → WorkOk n m word' count' S w
  work_more W = record { cells = W.cells; place = W.place; rows = λ p in-S. row_more (W.rows p in-S) }

-- The words with one more.
unfoldable pub extended : (ℕ → List ℕ) → ℕ → List ℕ → ℕ → List ℕ
extended word count last x = pick (eqb x count) last (word x)

module _ (word : ℕ → List ℕ) (count : ℕ) (last : List ℕ) where
  pub extended_old : (x : ℕ) → x < count → extended word count last x ≡ word x
  unfolding extended
  extended_old x h = let d : x ≡ count → ⊥ = omega arith in simp (ne_eqb _ _ d)

  pub extended_new : extended word count last count ≡ last
  unfolding extended
  extended_new = simp (eq-eqb count count refl)

-- The new element's word is that of e with the letter g.
abbrev pub grown_words : (ℕ → List ℕ) → ℕ → GroupElementId → GeneratorId → ℕ → List ℕ
grown_words word count e g = extended word count (word e.0 ++ g.0 ∷ [])

-- What is recorded in the row of a new element, and what is left.
module _ (t : List ℕ) (n count : ℕ) (e : GroupElementId) (g : GeneratorId) (len : ℕ) where
  abbrev pub written : List ℕ
  written = set_word t n (record { 0 = count }) e g len

  -- A cell of another row, or of another number.
  other_cell : (x k : ℕ) → k < 2 * n + 4 → ((i : ℕ) → i < 3 → start_of n x + k ≡ start_of n count + 2 * n + i → ⊥) → get_or written (start_of n x + k) 0 ≡ get_or t (start_of n x + k) 0
  unfolding set_word
  other_cell x k h d =
      let d0 : start_of n x + k ≡ start_of n count + 2 * n → ⊥ = λ q. d 0 (omega arith) (omega arith) in
      simp (put_other, d 2 (omega arith), d 1 (omega arith), d0)

  pub other_row : (x k : ℕ) → x < count → k < 2 * n + 4 → get_or written (start_of n x + k) 0 ≡ get_or t (start_of n x + k) 0
  other_row x k hx hk = other_cell x k hk (λ i hi q. let a = row_is n x count k (2 * n + i) hk (omega arith) (omega arith) in omega arith)

  pub word_length : length written ≡ length t
  unfolding set_word
  word_length = simp put_length

  pub parent_old : (x : ℕ) → x < count → parent_of written n x ≡ parent_of t n x
  parent_old x h = other_row x (2 * n) h (omega arith)

  pub last_old : (x : ℕ) → x < count → last_of written n x ≡ last_of t n x
  last_old x h = let q : start_of n x + (2 * n + 1) ≡ start_of n x + 2 * n + 1 = omega arith in rw (rw q at (other_row x (2 * n + 1) h (omega arith)))

  module _ (enough : start_of n count + (2 * n + 4) ≤ length t) where
    pub parent_new : e.0 < 4294967296 → parent_of written n count ≡ e.0
    unfolding set_word
    parent_new h =
        let a = put_same t (start_of n count + 2 * n) e.0 (omega arith) h in
        put_other _ (start_of n count + 2 * n + 2) len (omega arith) ∙ put_other _ (start_of n count + 2 * n + 1) g.0 (omega arith) ∙ a

    pub last_new : g.0 < 8 → last_of written n count ≡ g.0
    unfolding set_word
    last_new h =
        let t1 = put_at t (start_of n count + 2 * n) e.0 in
        let l : length t1 ≡ length t = put_length t (start_of n count + 2 * n) e.0 in
        let t2 = put_at t1 (start_of n count + 2 * n + 1) g.0 in
        rw (
          put_other t2 (start_of n count + 2 * n + 2) len {j = start_of n count + 2 * n + 1} (omega arith),
          put_same t1 (start_of n count + 2 * n + 1) g.0 (rw l (omega arith)) (omega arith),
        )
        (omega arith)

module _ {n : ℕ} {m : ℕ → ℕ → ℕ} {word : ℕ → List ℕ} {count : ℕ} {t : List ℕ} (T : TableOk n m word count t) (some : 1 ≤ count) (small : count ≤ 65535)
    (enough : start_of n count + (2 * n + 4) ≤ length t) (e : GroupElementId) (g : GeneratorId) (he : e.0 < count) (hg : g.0 < n) (few : n ≤ 8) where
  agrees : (x : ℕ) → x < count → grown_words word count e g x ≡ word x
  agrees = extended_old word count (word e.0 ++ g.0 ∷ [])

  new_word : grown_words word count e g count ≡ grown_words word count e g e.0 ++ g.0 ∷ []
  new_word = extended_new word count (word e.0 ++ g.0 ∷ []) ∙ rw (agrees e.0 he)

  -- The cells of a row that are no step.
  word_mark : (k v : ℕ) → 2 * n ≤ k → k < 2 * n + 4 → Marked n m (grown_words word count e g) (count + 1) (start_of n count + k) v
  word_mark k v low high = record {
    inside = λ e' k' h q z. let a = row_is n count e' k k' high h q in omega arith;
    succ = λ e' g' r' h q x. let a = cell_is n count e' k g' high (omega arith) q in absurd (omega arith);
    back = λ e' g' r' h q x. let a = cell_is n count e' k (n + g') high (omega arith) (omega arith) in absurd (omega arith);
  }

  module _ (len : ℕ) where
    split : {x : ℕ} → x < count + 1 → (x ≡ count) ⊎ (x < count)
    split h = below_suc (omega arith)

    written_words : RecordsWords n (grown_words word count e g) (count + 1) (written t n count e g len)
    written_words =
        let p = parent_new t n count e g len enough (omega arith) in
        let l = last_new t n count e g len enough (omega arith) in
        record {
          start = agrees 0 (omega arith) ∙ T.words.start;
          earlier = λ x h k. ⊎_elim (λ q. rw q (rw p he)) (λ b. rw (parent_old t n count e g len x b) (T.words.earlier x h b)) (split k);
          generator = λ x h k. ⊎_elim (λ q. rw q (rw l hg)) (λ b. rw (last_old t n count e g len x b) (T.words.generator x h b)) (split k);
          grow = λ x h k. ⊎_elim (λ q. rw q (rw (p, l) new_word))
              (λ b. let c = T.words.earlier x h b in
              rw (parent_old t n count e g len x b, last_old t n count e g len x b, agrees x b, agrees (parent_of t n x) (omega arith)) (T.words.grow x h b)) (split k);
          identity = λ h. (
            parent_old t n count e g len 0 (omega arith) ∙ (T.words.identity (omega arith)).0,
            last_old t n count e g len 0 (omega arith) ∙ (T.words.identity (omega arith)).1,
          );
        }

    written_ok : TableOk n m (grown_words word count e g) (count + 1) (written t n count e g len)
    unfolding set_word
    written_ok =
        let t1 = put_at t (start_of n count + 2 * n) e.0 in
        let t2 = put_at t1 (start_of n count + 2 * n + 1) g.0 in
        let q1 : start_of n count + (2 * n + 1) ≡ start_of n count + 2 * n + 1 = omega arith in
        let q2 : start_of n count + (2 * n + 2) ≡ start_of n count + 2 * n + 2 = omega arith in
        let m1 = put_keeps t (start_of n count + 2 * n) e.0 (Marked n m (grown_words word count e g) (count + 1)) (word_mark (2 * n) e.0 (omega arith) (omega arith)) (λ i. marked_more (omega arith) agrees (T.marks i)) in
        let m2 = put_keeps t1 (start_of n count + 2 * n + 1) g.0 (Marked n m (grown_words word count e g) (count + 1)) (rw q1 at (word_mark (2 * n + 1) g.0 (omega arith) (omega arith))) m1 in
        let m3 = put_keeps t2 (start_of n count + 2 * n + 2) len (Marked n m (grown_words word count e g) (count + 1)) (rw q2 at (word_mark (2 * n + 2) len (omega arith) (omega arith))) m2 in
        record { marks = m3; words = written_words }

    new_step : Step n m (grown_words word count e g) (count + 1) e.0 g.0 count
    new_step = record { from_below = omega arith; to_below = omega arith; leads = rw new_word same }

    -- The table with the new element, and with its step back.
    pub grown_ok : TableOk n m (grown_words word count e g) (count + 1) (set_step (set_step (written t n count e g len) n e g (record { 0 = count })) n (record { 0 = count }) g e)
    grown_ok = set_ok (set_ok written_ok e g (record { 0 = count }) hg new_step) (record { 0 = count }) g e hg (step_back hg new_step)
