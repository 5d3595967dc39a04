-- The invariant of reading: what holds when the places before row x and column g are read and c elements are known. Each of the three ways in which
-- one place is read keeps it or refuses.
use Prim.Native.Nat.{ℕ, suc, ◌+◌, ◌*◌, ◌≤◌, ◌<◌}
use mathlib.Core.Path.{◌≡◌, refl, ap, ◌∙◌}
use mathlib.Core.Logic.{⊎_elim}
use mathlib.Core.List.{List}
use native.Mathlib.Nat.{mul-le-mul_right}
use native.Mathlib.Decide.{dec_lt}
use native.Mathlib.Numerals.{add-one}
use native.Mathlib.Omega.{arith}
use borrow.Author.Tests.{lt-ltb, le-ltb, le-leb, lt-leb}
use lib.ListN.{length, get_or}
use Rattle.egg.specs.Table.{start_of, length_of}
use Rattle.egg.specs.declared.Refusal.{Refusal}
use Rattle.std.specs.Prelude.{Ok, Err}
use Rattle.build_reading.specs.Build.{adds}
use Rattle.egg.specs.Answers.{numbered}
use Rattle.build_reading.specs.Reading.{Placed, placed, read_place}
use Rattle.theory.specs.Numbering.{old, new}
use Rattle.theory.specs.Appearance.{recorded}
use Rattle.theory.proofs.BoundedTests.{below_suc}
use Rattle.theory.proofs.Counting.{row_known}
use Rattle.theory.proofs.Induction.{Order, less, equal, more, order}
use Rattle.build_reading_laws.specs.Read.{ReadSoFar, Stops, skips_ahead, no_room, long_word, ReadingRefused}
use Rattle.build_reading_laws.proofs.Stores.{stepped, worded, step_length, step_keeps, step_beyond, word_length, word_keeps, word_beyond}
use Rattle.build_reading_laws.proofs.Steps.{Steps, steps_same, steps_next}
use Rattle.build_reading_laws.proofs.Words.{Words, words_same, words_new}
use Rattle.theory.proofs.RuleLaws.{new_letters}

pub record ReadingState (src : ℕ → ℕ → ℕ) (n room size x g c : ℕ) (t : List ℕ) : Type 0 where
  pub held : ReadSoFar src n room x g c
  pub whole : length t ≡ size
  pub steps : Steps src n x g c t
  pub words : Words src n c t
  pub blank : (i : ℕ) → c * (2 * n + 4) ≤ i → get_or t i 0 ≡ 0

-- What a reading came to: what is so after a count, and what is so after a refusal.
abbrev pub On : (ℕ → List ℕ → Type 0) → (Refusal → Type 0) → Placed → Type 0
On A R (placed (Ok c) t) = A c t
On A R (placed (Err r) t) = R r

-- The five ways of one place.
module _ (t : List ℕ) (n room c x g v : ℕ) where
  pub place_skip : c < v → read_place t n room c x g v ≡ placed (Err (numbered 7 x g v)) t
  unfolding read_place
  place_skip h = simp (lt-ltb c v h)

  pub place_old : v < c → read_place t n room c x g v ≡ placed (Ok c) (stepped t n x g v)
  unfolding read_place
  place_old h = simp (le-ltb c v (omega arith), lt-ltb v c h)

  module _ (is : v ≡ c) where
    place_full : room ≤ c → read_place t n room c x g v ≡ placed (Err (numbered 5 x g 0)) t
    unfolding read_place adds
    place_full h = simp (le-ltb c v (omega arith), le-ltb v c (omega arith), le-leb room c h)

    pub place_long : c < room → 4096 ≤ length_of t n x → read_place t n room c x g v ≡ placed (Err (numbered 6 x g 0)) t
    unfolding read_place adds
    place_long h l = simp (le-ltb c v (omega arith), le-ltb v c (omega arith), lt-leb room c h, le-leb 4096 (length_of t n x) l)

    pub place_new : c < room → length_of t n x < 4096
        → read_place t n room c x g v ≡ placed (Ok (suc c)) (stepped (worded t n c x g (suc (length_of t n x))) n x g c)
    unfolding read_place adds
    place_new h l = simp (le-ltb c v (omega arith), le-ltb v c (omega arith), lt-leb room c h, lt-leb 4096 (length_of t n x) l, add-one)

rows_fit : (w : ℕ) {c room l size : ℕ} → room * w ≤ size → c ≤ room → l ≡ size → c * w ≤ l
rows_fit w fits h q = omega (arith, mul-le-mul_right w h)

module _ {src : ℕ → ℕ → ℕ} {n room size : ℕ} (hn : n ≤ 8) (hr : room ≤ 65535) (fits : room * (2 * n + 4) ≤ size) where
  module _ {x g c : ℕ} {t : List ℕ} (S : ReadingState src n room size x g c t) (hg : g < n) where
    hx : x < c
    hx = row_known S.held.known

    letters_at : length_of t n x ≡ length (recorded n src x)
    letters_at = let q : start_of n x + (2 * n + 2) ≡ start_of n x + 2 * n + 2 = omega arith in rw q at (S.words.letters hx)

    state_old : src x g < c → ReadingState src n room size x (suc g) c (stepped t n x g (src x g))
    state_old h =
        let f = rows_fit (2 * n + 4) fits S.held.within S.whole in
        let s : c ≤ 65535 = omega (arith, S.held.within) in
        record {
          held = record { known = old S.held.known hg h; within = S.held.within; short = S.held.short };
          whole = step_length t n x g (src x g) hg ∙ S.whole;
          steps = steps_next S.steps hg refl hx h f s;
          words = words_same (λ e k l m. step_keeps t n x g (src x g) hg e k m (λ p q. omega arith) (λ p q. omega arith)) S.words;
          blank = λ i b. step_beyond t n x g (src x g) hg hx h f s i b ∙ S.blank i b;
        }

    module _ (is : src x g ≡ c) (hc : c < room) (hl : length_of t n x < 4096) where
      state_new : ReadingState src n room size x (suc g) (suc c) (stepped (worded t n c x g (suc (length_of t n x))) n x g c)
      state_new =
          let K = S.held.known in
          let l = suc (length_of t n x) in
          let w = worded t n c x g l in
          let f : suc c * (2 * n + 4) ≤ length t = rows_fit (2 * n + 4) fits hc S.whole in
          let f₁ : suc c * (2 * n + 4) ≤ length w = rows_fit (2 * n + 4) fits hc (word_length t n c x g l ∙ S.whole) in
          let s : suc c ≤ 65535 = omega arith in
          let hx₁ : x < suc c = omega (arith, hx) in
          let a = words_new S.words K hg is (ap suc letters_at) hl hn s f in
          let b = steps_same {d = suc c} {t' = w} (omega arith) (λ e k m. word_keeps t n c x g l e k (omega arith) (λ p q r. omega arith)) S.steps in
          record {
            held = record {
              known = new K hg is;
              within = hc;
              short = λ {e} h. ⊎_elim (λ q. rw q (omega (arith, new_letters K hg is, letters_at))) (λ m. S.held.short m) (below_suc h);
            };
            whole = step_length w n x g c hg ∙ word_length t n c x g l ∙ S.whole;
            steps = steps_next b hg is hx₁ (omega arith) f₁ s;
            words = words_same (λ e k j m. step_keeps w n x g c hg e k m (λ p q. omega arith) (λ p q. omega arith)) a;
            blank = λ i p. step_beyond w n x g c hg hx₁ (omega arith) f₁ s i p
                ∙ word_beyond t n c x g l (omega (arith, hx)) hg hn hl s f i p ∙ S.blank i (omega arith);
          }

    -- One place.
    pub read_place_lem : On (ReadingState src n room size x (suc g)) (ReadingRefused src n room) (read_place t n room c x g (src x g))
    read_place_lem = go (order (src x g) c) where
      refused : {r : Refusal} → Stops src n room x g c r → ReadingRefused src n room r
      refused s = record { row = x; column = g; count = c; before = S.held; place = hg; stops = s }

      at_new : src x g ≡ c → Dec (c < room) → Dec (length_of t n x < 4096)
          → On (ReadingState src n room size x (suc g)) (ReadingRefused src n room) (read_place t n room c x g (src x g))
      at_new is (no h) l = rw (place_full t n room c x g (src x g) is (omega arith)) (refused (no_room is (omega (arith, S.held.within))))
      at_new is (yes h) (no l) = rw (place_long t n room c x g (src x g) is h (omega arith))
          (refused (long_word is h (omega (arith, letters_at, S.held.short hx))))
      at_new is (yes h) (yes l) = rw (place_new t n room c x g (src x g) is h l) (state_new is h l)

      go : Order (src x g) c → On (ReadingState src n room size x (suc g)) (ReadingRefused src n room) (read_place t n room c x g (src x g))
      go (less h) = rw (place_old t n room c x g (src x g) h) (state_old h)
      go (equal h) = at_new h (dec_lt c room) (dec_lt (length_of t n x) 4096)
      go (more h) = rw (place_skip t n room c x g (src x g) h) (refused (skips_ahead h))
