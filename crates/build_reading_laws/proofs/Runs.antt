-- Reading a row, and row after row: from a state that the invariant describes it comes to a table that is read whole, or to a refusal.
use Prim.Native.Nat.{ℕ, zero, suc, ◌+◌, ◌*◌, ◌≤◌, ◌<◌}
use mathlib.Core.Path.{◌≡◌, refl, sym, ◌∙◌}
use mathlib.Core.List.{List}
use native.Mathlib.Decide.{dec_lt}
use native.Mathlib.Omega.{arith}
use borrow.Author.Tests.{lt-ltb, le-ltb}
use lib.ListN.{length, get_or, replicate, length-replicate, get_or-replicate, get_or-eq_default}
use Rattle.egg.specs.Table.{start_of, parent_of, hop_of, last_of, length_of}
use Rattle.egg.specs.declared.Refusal.{Refusal}
use Rattle.std.specs.Prelude.{Ok, Err}
use Rattle.build_reading.specs.Reading.{Placed, placed, then_placed, read_place, read_row, read_from, read_all}
use Rattle.theory.specs.Numbering.{start, next_row}
use Rattle.theory.specs.Appearance.{Ahead, row, parent_of_lem, last_of_lem, recorded}
use Rattle.theory.proofs.Places.{ahead_row, nothing_ahead}
use Rattle.theory.proofs.Counting.{row_known}
use Rattle.theory.proofs.Recording.{length_grow}
use Rattle.build_reading_laws.specs.Read.{Read, ReadingRefused}
use Rattle.build_reading_laws.proofs.Steps.{steps_row}
use Rattle.theory.proofs.RuleLaws.{known_first, known_recorded}
use Rattle.build_reading_laws.proofs.ReadingState.{ReadingState, On, read_place_lem}

-- What follows a count follows on what is so there; a refusal stands.
then_on : (A B : ℕ → List ℕ → Type 0) (R : Refusal → Type 0) (p : Placed) (f : ℕ → List ℕ → Placed)
    → On A R p → ((c : ℕ) (t : List ℕ) → A c t → On B R (f c t)) → On B R (then_placed p f)
then_on A B R (placed (Ok c) t) f a k = k c t a
then_on A B R (placed (Err r) t) f a k = a

pub zeros : (size i : ℕ) → get_or (replicate {A = ℕ} size 0) i 0 ≡ 0
zeros size i = go (dec_lt i size) where
  go : Dec (i < size) → get_or (replicate {A = ℕ} size 0) i 0 ≡ 0
  go (yes h) = get_or-replicate size i 0 0 h
  go (no h) = get_or-eq_default (replicate size 0) 0 (omega (arith, length-replicate {A = ℕ} size 0))

module _ (src : ℕ → ℕ → ℕ) (n room size : ℕ) where
  -- Before anything is read the identity is known, and all cells are zero.
  pub state_start : 1 ≤ room → ReadingState src n room size 0 0 1 (replicate size 0)
  state_start h = record {
    held = record { known = start; within = h; short = λ {e} l. let q : e ≡ 0 = omega arith in rw q (omega arith) };
    whole = length-replicate size 0;
    steps = record {
      successor = λ hh a. absurd (nothing_ahead a);
      predecessor = λ {r} {h} hh q. absurd (omega (arith, zeros size (start_of n r + (n + h))));
      arrived = λ hh a. absurd (nothing_ahead a);
    };
    words = record {
      parent = λ p l. absurd (omega arith);
      letter = λ p l. absurd (omega arith);
      letters = λ {e} l. let q : e ≡ 0 = omega arith in rw q (zeros size (start_of n 0 + (2 * n + 2)));
      no_parent = zeros size (start_of n 0 + 2 * n);
      no_letter = zeros size (start_of n 0 + (2 * n + 1));
      no_inverse = λ e. zeros size (start_of n e + (2 * n + 3));
    };
    blank = λ i l. zeros size i;
  }

  -- The next row, where its element is known.
  pub state_row : {x c : ℕ} {t : List ℕ} → suc x < c → ReadingState src n room size x n c t → ReadingState src n room size (suc x) 0 c t
  state_row h S = record {
    held = record { known = next_row S.held.known h; within = S.held.within; short = S.held.short };
    whole = S.whole;
    steps = steps_row S.steps;
    words = S.words;
    blank = S.blank;
  }

  module _ (hn : n ≤ 8) {x c : ℕ} {t : List ℕ} (h : c ≤ suc x) (S : ReadingState src n room size x n c t) where
    origin : 0 < c
    origin = omega (arith, row_known S.held.known)

    before : {e g : ℕ} → e < c → g < n → Ahead e g x n
    before he hg = ahead_row hg (row (omega arith))

    -- The cell of the last letter holds nothing else yet.
    hop_is : {e : ℕ} → 0 < e → e < c → hop_of t n e ≡ last_of_lem n src e
    hop_is {e} p l = let i : start_of n e + (2 * n + 1) ≡ start_of n e + 2 * n + 1 = omega arith in rw i at (S.words.letter p l)

    hop_none : hop_of t n 0 ≡ 0
    hop_none = let i : start_of n 0 + (2 * n + 1) ≡ start_of n 0 + 2 * n + 1 = omega arith in rw i at S.words.no_letter

    one_letter : (e : ℕ) → e < c → hop_of t n e ≡ last_of t n e
    one_letter zero l = omega (arith, hop_none)
    one_letter (suc e) l = let p : 0 < suc e = omega arith in omega (arith, hop_is p l, ((known_first S.held.known).first p l).generator)

    last_is : {e : ℕ} → 0 < e → e < c → last_of t n e ≡ last_of_lem n src e
    last_is {e} p l = sym (one_letter e l) ∙ hop_is p l

    letters_are : {e : ℕ} → e < c → length_of t n e ≡ length (recorded n src e)
    letters_are {e} l = let i : start_of n e + (2 * n + 2) ≡ start_of n e + 2 * n + 2 = omega arith in rw i at (S.words.letters l)

    one_more : {e : ℕ} → 0 < e → e < c → length_of t n e ≡ suc (length_of t n (parent_of t n e))
    one_more {e} p l =
        let K = S.held.known in
        let m : parent_of_lem n src e < c = omega (arith, ((known_first K).first p l).earlier) in
        rw (S.words.parent p l, letters_are m) (letters_are l ∙ length_grow (known_recorded K) p l)

    -- After the last row everything is read.
    state_read : Read src n room size c t
    state_read =
        let K = S.held.known in
        record {
          by_rule = record { end = x; last_row = omega (arith, row_known K); known = K };
          origin = origin;
          within = S.held.within;
          whole = S.whole;
          successor = λ he hg. S.steps.successor hg (before he hg);
          predecessor = λ {r} {g} hr hg p. let i : start_of n r + n + g ≡ start_of n r + (n + g) = omega arith in S.steps.predecessor hg (rw i at p);
          arrived = λ {r} {g} he hg is p.
              let i : start_of n r + n + g ≡ start_of n r + (n + g) = omega arith in
              S.steps.arrived hg (before he hg) (rw (i, ← is) at p);
          appearance = record { first = λ p l. rw (S.words.parent p l, last_is p l) ((known_first K).first p l) };
          no_letters = letters_are origin;
          one_more = one_more;
          short = λ l. rw (letters_are l) (S.held.short l);
          no_inverse = λ {e} l. let i : start_of n e + (2 * n + 3) ≡ start_of n e + 2 * n + 3 = omega arith in rw i at (S.words.no_inverse e);
          no_parent = S.words.no_parent;
          no_last = sym (one_letter 0 origin) ∙ hop_none;
          one_letter = λ {e} l. one_letter e l;
          beyond = λ {i} l. S.blank i l;
        }

  ends_here : (k x c : ℕ) (t : List ℕ) → c ≤ x → read_from k src n room x c t ≡ placed (Ok c) t
  unfolding read_from
  ends_here zero x c t h = refl
  ends_here (suc k) x c t h = simp (le-ltb x c h)

  module _ (hn : n ≤ 8) (hr : room ≤ 65535) (fits : room * (2 * n + 4) ≤ size) where
    -- The k places that are left of row x.
    read_row_lem : (k : ℕ) {x g c : ℕ} {t : List ℕ} → g + k ≡ n → ReadingState src n room size x g c t
        → On (ReadingState src n room size x n) (ReadingRefused src n room) (read_row k src n room x g c t)
    unfolding read_row
    read_row_lem zero {x} {g} {c} {t} q S = let p : g ≡ n = omega arith in rw p at S
    read_row_lem (suc k) {x} {g} {c} {t} q S =
        let p : g + 1 ≡ suc g = omega arith in
        then_on (ReadingState src n room size x (suc g)) (ReadingState src n room size x n) _ (read_place t n room c x g (src x g)) _
        (read_place_lem hn hr fits S (omega arith)) (λ c' t' S'. rw p (read_row_lem k (omega arith) S'))

    -- The rows from x on; k of them are enough.
    read_from_lem : (k : ℕ) {x c : ℕ} {t : List ℕ} → room ≤ x + k → ReadingState src n room size x 0 c t
        → On (Read src n room size) (ReadingRefused src n room) (read_from k src n room x c t)
    unfolding read_from
    read_from_lem zero {x} {c} {t} h S = absurd (omega (arith, row_known S.held.known, S.held.within))
    read_from_lem (suc k) {x} {c} {t} h S =
        rw (lt-ltb x c (row_known S.held.known))
        (then_on (ReadingState src n room size x n) (Read src n room size) _ (read_row n src n room x 0 c t) _ (read_row_lem n (omega arith) S)
        (λ c' t' S'. go c' t' S' (read_from_lem k (omega arith)) (dec_lt (suc x) c')))
      where
        go : (c' : ℕ) (t' : List ℕ) → ReadingState src n room size x n c' t'
            → (ReadingState src n room size (suc x) 0 c' t' → On (Read src n room size) (ReadingRefused src n room) (read_from k src n room (suc x) c' t'))
            → Dec (suc x < c') → On (Read src n room size) (ReadingRefused src n room) (read_from k src n room (x + 1) c' t')
        go c' t' S' ih (yes l) = let p : x + 1 ≡ suc x = omega arith in rw p (ih (state_row l S'))
        go c' t' S' ih (no l) = rw (ends_here k (x + 1) c' t' (omega arith)) (state_read hn (omega arith) S')

    -- The whole reading.
    pub read_all_lem : 1 ≤ room → On (Read src n room size) (ReadingRefused src n room) (read_all src n room (replicate size 0))
    read_all_lem h = read_from_lem room (omega arith) (state_start h)
