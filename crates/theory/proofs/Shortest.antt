-- The recorded word of an element is the first of all the words that lead to it, by length and then as in a dictionary.
use mathlib.Core.Path.{◌≡◌, refl, sym, ap}
use mathlib.Core.Logic.{◌⊎◌, inl, inr}
use mathlib.Core.List.{List, [], ◌∷◌, ◌++◌, append-nil, append_assoc}
use Prim.Native.Nat.{ℕ, zero, suc, ◌<◌, ◌≤◌}
use native.Mathlib.Nat.{le_refl, lt_trans}
use native.Mathlib.Omega.{arith}
use lib.ListN.{length}
use Rattle.theory.specs.Table.{Table}
use Rattle.theory.specs.Words.{Word, empty, letter, walk, Recorded}
use Rattle.theory.specs.WordOrder.{Lex, Before, shorter, earlier, AtMost}
use Rattle.theory.specs.Numbering.{Numbered}
use Rattle.theory.specs.Appearance.{Ahead, row, column, FirstAppearance, recorded}
use Rattle.theory.proofs.Counting.{numbered_table}
use Rattle.theory.proofs.FirstPlaces.{numbered_first, first_parents}
use Rattle.theory.proofs.Recording.{word_of_recorded}
use Rattle.theory.proofs.ShortLex.{before_append, before_last, nil_before, at_most_append, at_most_trans, lex_differs, lex_asym}
use Rattle.theory.proofs.Places.{Places, sooner, same, later, places}
use Rattle.theory.proofs.Induction.{induction, Order, less, equal, more, order}

module _ {n N : ℕ} {step : ℕ → ℕ → ℕ} {parent last : ℕ → ℕ} {word : ℕ → List ℕ} (T : Table n N step)
    (F : FirstAppearance n N step parent last) (R : Recorded N parent last word) where
  -- The elements have their places in their order.
  in_order_lem : {a b : ℕ} → 0 < a → a < b → b < N → Ahead (parent a) (last a) (parent b) (last b)
  in_order_lem {a} {b} pos a<b hb = go (places (parent a) (last a) (parent b) (last b)) where
    ha : a < N
    ha = omega arith

    pos' : 0 < b
    pos' = omega arith

    go : Places (parent a) (last a) (parent b) (last b) → Ahead (parent a) (last a) (parent b) (last b)
    go (sooner p) = p
    go (same p q) = let z : a ≡ b = cc ((F.first pos ha).arrives, (F.first pos' hb).arrives) in absurd (omega arith)
    go (later p) = absurd (omega (arith, (F.first pos' hb).arrives, (F.first pos ha).before (F.first pos' hb).generator p))

  -- A letter more, at the end of the words of two elements that are in order: the places decide.
  extended : {x g y h : ℕ} → (x < y → Before (word x) (word y)) → Ahead x g y h → Before (word x ++ g ∷ []) (word y ++ h ∷ [])
  extended {g = g} {h = h} f (row p) = before_append (f p) g h
  extended {y = y} f (column p q) = rw p (before_last (word y) q)

  -- So the recorded words are in the order of the elements.
  abbrev Ordered : ℕ → Type 0
  Ordered b = (a : ℕ) → a < b → b < N → Before (word a) (word b)

  ordered : (b : ℕ) → Ordered b
  ordered = induction Ordered go where
    go : (b : ℕ) → ((d : ℕ) → d < b → Ordered d) → Ordered b
    go b ih zero h hb = rw (R.start, R.grow h hb) (nil_before (word (parent b)) (last b))
    go b ih (suc a) h hb =
        let pos : 0 < suc a = omega arith in
        let pos' : 0 < b = omega arith in
        let d = (F.first pos' hb).earlier in
        rw (R.grow pos (lt_trans h hb), R.grow pos' hb)
        (extended (λ l. ih (parent b) d (parent (suc a)) l (lt_trans d hb)) (in_order_lem pos h hb))

  -- The word of the element to which g leads from e is at most the word of e with g.
  step_at_most : {e g : ℕ} → e < N → g < n → AtMost (word (step e g)) (word e ++ g ∷ [])
  step_at_most {e} {g} he hg = go (order 0 (step e g)) where
    by_place : 0 < step e g → Places (parent (step e g)) (last (step e g)) e g → AtMost (word (step e g)) (word e ++ g ∷ [])
    by_place pos (sooner p) = inr (rw (R.grow pos (T.closed he hg)) (extended (λ l. ordered e (parent (step e g)) l he) p))
    by_place pos (same p q) = inl (rw (R.grow pos (T.closed he hg), p, q))
    by_place pos (later p) = absurd (omega (arith, (F.first pos (T.closed he hg)).before hg p))

    go : Order 0 (step e g) → AtMost (word (step e g)) (word e ++ g ∷ [])
    go (less pos) = by_place pos (places (parent (step e g)) (last (step e g)) e g)
    go (equal z) = inr (rw (← z, R.start) (nil_before (word e) g))
    go (more h) = absurd (omega arith)

  walk_at_most : {e : ℕ} {u v : List ℕ} → e < N → Word n v → AtMost (word e) u → AtMost (word (walk step e v)) (u ++ v)
  walk_at_most e empty m = rw append-nil m
  walk_at_most {e = x} {u = u} e (letter {g = g} h v) m =
      rw append_assoc at (walk_at_most {e = step x g} {u = u ++ g ∷ []} (T.closed e h) v (at_most_trans (step_at_most e h) (at_most_append m g)))

  -- The word of e is, of all the words that lead to e, the first.
  pub word_least : {e : ℕ} {w : List ℕ} → Word n w → walk step 0 w ≡ e → AtMost (word e) w
  word_least w h = rw h at (walk_at_most {u = []} T.origin w (inl R.start))

  -- No word that leads to e is shorter.
  pub shortest : {e : ℕ} {w : List ℕ} → Word n w → walk step 0 w ≡ e → length (word e) ≤ length w
  shortest {e} {w} hw h = go (word_least hw h) where
    go : AtMost (word e) w → length (word e) ≤ length w
    go (inl q) = rw q (le_refl (length w))
    go (inr (shorter k)) = omega arith
    go (inr (earlier k l)) = omega arith

  -- Of those of the same length it is the earliest, and none comes before it.
  pub lex_least : {e : ℕ} {w : List ℕ} → Word n w → walk step 0 w ≡ e → length w ≡ length (word e) → (word e ≡ w) ⊎ Lex (word e) w
  lex_least {e} {w} hw h len = go (word_least hw h) where
    go : AtMost (word e) w → (word e ≡ w) ⊎ Lex (word e) w
    go (inl q) = inl q
    go (inr (shorter k)) = absurd (omega arith)
    go (inr (earlier k l)) = inr l

  pub none_earlier : {e : ℕ} {w : List ℕ} → Word n w → walk step 0 w ≡ e → length w ≡ length (word e) → ¬ (Lex w (word e))
  none_earlier {e} {w} hw h len l = go (lex_least hw h len) where
    go : (word e ≡ w) ⊎ Lex (word e) w → ⊥
    go (inl q) = lex_differs l (sym q)
    go (inr k) = lex_asym k l

-- In a table by the numbering rule the recorded word, read from the table alone, is the best one: "no word that reaches the element is shorter,
-- and among those of the same length none comes earlier by generator number".
module _ {n N : ℕ} {step : ℕ → ℕ → ℕ} (R : Numbered n N step) {w : List ℕ} (hw : Word n w) where
  pub recorded_best : (length (recorded n step (walk step 0 w)) ≤ length w)
      × (length w ≡ length (recorded n step (walk step 0 w)) → ¬ (Lex w (recorded n step (walk step 0 w))))
  recorded_best =
      let F = numbered_first R in
      let W = word_of_recorded (first_parents F) in
      (shortest (numbered_table R) F W hw refl, none_earlier (numbered_table R) F W hw refl)

-- What has the shorter recorded word has the smaller number.
pub shorter_first : {n N : ℕ} {step : ℕ → ℕ → ℕ} → Numbered n N step → {a b : ℕ} → a < N → length (recorded n step a) < length (recorded n step b) → a < b
shorter_first {n} {step = step} R {a} {b} ha l = go (order a b) where
  no_longer : Before (recorded n step b) (recorded n step a) → ⊥
  no_longer (shorter k) = omega arith
  no_longer (earlier k _) = omega arith

  go : Order a b → a < b
  go (less h) = h
  go (equal e) = absurd (omega (arith, ap (λ x. length (recorded n step x)) e))
  go (more h) =
      let F = numbered_first R in
      absurd (no_longer (ordered (numbered_table R) F (word_of_recorded (first_parents F)) a b h ha))
