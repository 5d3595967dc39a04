-- A builder's own rows with steps missing, beside a reading of its numbers: both come to the same. The table has the steps that are there, and a predecessor
-- is stored exactly where some step leads there.
use Prim.Native.Nat.{ℕ, suc, ◌+◌, ◌*◌, ◌-◌, ◌≤◌, ◌<◌}
use mathlib.Core.Path.{◌≡◌, refl, sym, ap, ◌∙◌}
use mathlib.Core.Logic.{⊎_elim}
use mathlib.Core.List.{List}
use native.Mathlib.Nat.{mul-le-mul_right, eq-zero-or-pos}
use native.Mathlib.Decide.{ℕ_discrete, dec_lt}
use native.Mathlib.Omega.{arith}
use borrow.Author.Tests.{lt-ltb, le-ltb}
use lib.ListN.{length, get_or, replicate, length-replicate}
use Rattle.egg.specs.Refusals.{refusal_paper}
use Rattle.egg.specs.declared.Refusal.{Refusal}
use Rattle.egg.specs.Table.{start_of, length_of}
use Rattle.build_reading.specs.Build.{set_step, set_word}
use Rattle.build_reading.specs.Reading.{read_place, read_all}
use Rattle.builder_rereading.specs.Own.{own_place, own_all}
use Rattle.builder_rereading.proofs.Owning.{own_missing, own_outside, own_read}
use Rattle.build_checks_laws.proofs.AnyWork.{AlikeAt, put_alike}
use Rattle.build_reading_laws.proofs.Stores.{cell, stepped, worded, step_length, step_keeps, step_predecessor, predecessor_or_kept, word_length, word_keeps}
use Rattle.build_reading_laws.proofs.ReadingState.{place_skip, place_old}
use Rattle.build_reading_laws.proofs.Runs.{zeros}
use Rattle.promises_builder.specs.Own.{own_number, own_refusal}
use Rattle.promises_builder.proofs.EndAlike.{EndAlike, all_alike, read_alike}

-- The builder's table t beside the table t' of the numbers, when c elements are known: what t stores of the steps, and the same lengths of words.
pub record TableBeside (own : ℕ → ℕ → ℕ) (n size c : ℕ) (t t' : List ℕ) : Type 0 where
  pub whole : length t ≡ size
  pub whole' : length t' ≡ size
  pub missing : {e g : ℕ} → g < n → own e g ≡ 0 → cell t n e g ≡ 0
  pub stored : {e g : ℕ} → g < n → (own e g ≡ 0 → ⊥) → cell t n e g ≡ cell t' n e g
  pub letters : (e : ℕ) → cell t n e (2 * n + 2) ≡ cell t' n e (2 * n + 2)
  pub back : {r g e : ℕ} → g < n → cell t n r (n + g) ≡ suc e → (e < c) × (own e g ≡ suc r)
  pub arrived : {e g r : ℕ} → g < n → own e g ≡ suc r → (cell t n e g ≡ 0 → ⊥) → cell t n r (n + g) ≡ 0 → ⊥

-- What the builder is refused by, where a reading of its numbers is refused by r; the table is as long as it was.
abbrev pub OwnRefusal : ℕ → ℕ → Refusal → Refusal → List ℕ → List ℕ → Type 0
OwnRefusal N size s r t t' = (s ≡ own_refusal N r) × (length t ≡ size)

-- The same store in both.
module _ (t t' : List ℕ) (long : length t ≡ length t') (i : ℕ) (here : get_or t i 0 ≡ get_or t' i 0) where
  alike : AlikeAt i t t'
  alike = record { there = λ h. omega arith; back = λ h. omega arith; here = here }

  step_alike : (n x g v : ℕ) → get_or (stepped t n x g v) i 0 ≡ get_or (stepped t' n x g v) i 0
  unfolding set_step
  step_alike n x g v = (put_alike (put_alike alike _ (v + 1)) _ (x + 1)).here

  word_alike : (n c x g l : ℕ) → get_or (worded t n c x g l) i 0 ≡ get_or (worded t' n c x g l) i 0
  unfolding set_word
  word_alike n c x g l = (put_alike (put_alike (put_alike alike _ x) _ g) _ l).here

module _ {own : ℕ → ℕ → ℕ} {n size : ℕ} where
  -- A step that is stored in both.
  module _ {x g c v : ℕ} {t t' : List ℕ} (B : TableBeside own n size c t t') (hg : g < n) (is : own x g ≡ suc v) (hx : x < c) (hv : v < c)
      (fits : c * (2 * n + 4) ≤ length t) (small : c ≤ 65535) where
    apart : {e h : ℕ} → own e h ≡ 0 → e ≡ x → h ≡ g → ⊥
    apart z p q = omega (arith, rw (p, q) at z)

    next_back : {r h e : ℕ} → h < n → cell (stepped t n x g v) n r (n + h) ≡ suc e → (e < c) × (own e h ≡ suc r)
    next_back {r} {h} {e} hh q = ⊎_elim
        (λ p. let i : e ≡ x = omega (arith, p.2, q) in (omega arith, rw (i, p.0, p.1) is))
        (λ k. B.back hh (sym k ∙ q))
        (predecessor_or_kept t n x g v hg hx hv fits small r h hh)

    next_arrived : {e h r : ℕ} → h < n → own e h ≡ suc r → (cell (stepped t n x g v) n e h ≡ 0 → ⊥) → cell (stepped t n x g v) n r (n + h) ≡ 0 → ⊥
    next_arrived {e} {h} {r} hh o there none = go (ℕ_discrete e x) (ℕ_discrete h g) where
      before : (e ≡ x → h ≡ g → ⊥) → ⊥
      before d = ⊎_elim
          (λ p. omega (arith, p.2, none))
          (λ k. B.arrived hh o (λ z. there (step_keeps t n x g v hg e h (omega arith) d (λ p q. omega arith) ∙ z)) (sym k ∙ none))
          (predecessor_or_kept t n x g v hg hx hv fits small r h hh)

      go : Dec (e ≡ x) → Dec (h ≡ g) → ⊥
      go (yes p) (yes q) =
          let y : r ≡ v = omega (arith, rw (p, q) at o, is) in
          omega (arith, rw (y, q) at none, step_predecessor t n x g v hg hx hv fits small)
      go (yes p) (no d) = before (λ a b. d b)
      go (no d) q = before (λ a b. d a)

    beside_step : TableBeside own n size c (stepped t n x g v) (stepped t' n x g v)
    beside_step =
        let long : length t ≡ length t' = B.whole ∙ sym B.whole' in
        record {
          whole = step_length t n x g v hg ∙ B.whole;
          whole' = step_length t' n x g v hg ∙ B.whole';
          missing = λ {e} {g = h} hh z. step_keeps t n x g v hg e h (omega arith) (apart z) (λ p q. omega arith) ∙ B.missing hh z;
          stored = λ {e} {g = h} hh z. step_alike t t' long (start_of n e + h) (B.stored hh z) n x g v;
          letters = λ e. step_alike t t' long (start_of n e + (2 * n + 2)) (B.letters e) n x g v;
          back = next_back;
          arrived = next_arrived;
        }

  -- The word of a new element in both.
  beside_word : {c : ℕ} {t t' : List ℕ} (x g l : ℕ) → TableBeside own n size c t t' → TableBeside own n size (suc c) (worded t n c x g l) (worded t' n c x g l)
  beside_word {c} {t} {t'} x g l B =
      let long : length t ≡ length t' = B.whole ∙ sym B.whole' in
      let same : (e k : ℕ) → k < 2 * n → cell (worded t n c x g l) n e k ≡ cell t n e k = λ e k h. word_keeps t n c x g l e k (omega arith) (λ p q r. omega arith) in
      record {
        whole = word_length t n c x g l ∙ B.whole;
        whole' = word_length t' n c x g l ∙ B.whole';
        missing = λ {e} {g = h} hh z. same e h (omega arith) ∙ B.missing hh z;
        stored = λ {e} {g = h} hh z. word_alike t t' long (start_of n e + h) (B.stored hh z) n c x g l;
        letters = λ e. word_alike t t' long (start_of n e + (2 * n + 2)) (B.letters e) n c x g l;
        back = λ {r} {g = h} {e} hh q. let p = B.back hh (sym (same r (n + h) (omega arith)) ∙ q) in (omega (arith, p.0), p.1);
        arrived = λ {e} {g = h} {r} hh o there none.
            B.arrived hh o (λ z. there (same e h (omega arith) ∙ z)) (sym (same r (n + h) (omega arith)) ∙ none);
      }

  -- A missing step is stored in t' alone, as one to the identity.
  beside_missing : {x g c : ℕ} {t t' : List ℕ} → TableBeside own n size c t t' → g < n → own x g ≡ 0 → TableBeside own n size c t (stepped t' n x g 0)
  beside_missing {x} {g} {c} {t} {t'} B hg none = record {
    whole = B.whole;
    whole' = step_length t' n x g 0 hg ∙ B.whole';
    missing = B.missing;
    stored = λ {e} {g = h} hh z.
        B.stored hh z ∙ sym (step_keeps t' n x g 0 hg e h (omega arith) (λ p q. z (rw (p, q) none)) (λ p q. omega arith));
    letters = λ e. B.letters e ∙ sym (step_keeps t' n x g 0 hg e (2 * n + 2) (omega arith) (λ p q. omega arith) (λ p q. omega arith));
    back = B.back;
    arrived = B.arrived;
  }

  beside_start : TableBeside own n size 1 (replicate size 0) (replicate size 0)
  beside_start = record {
    whole = length-replicate size 0;
    whole' = length-replicate size 0;
    missing = λ {e} {g} hg z. zeros size (start_of n e + g);
    stored = λ hg z. refl;
    letters = λ e. refl;
    back = λ {r} {g} hg q. absurd (omega (arith, zeros size (start_of n r + (n + g))));
    arrived = λ {e} {g} hg o there none. there (zeros size (start_of n e + g));
  }

module _ (own : ℕ → ℕ → ℕ) (n room size N : ℕ) (lo : 1 ≤ N) (hi : N ≤ room) (limit : room ≤ 65535) (fits : room * (2 * n + 4) ≤ size) where
  rows_fit : {c l : ℕ} → c ≤ N → l ≡ size → c * (2 * n + 4) ≤ l
  rows_fit {c} h q = let k : c ≤ room = omega arith in omega (arith, mul-le-mul_right (2 * n + 4) k)

  letters_at : (x : ℕ) (t t' : List ℕ) → cell t n x (2 * n + 2) ≡ cell t' n x (2 * n + 2) → length_of t n x ≡ length_of t' n x
  letters_at x t t' q = let i : start_of n x + (2 * n + 2) ≡ start_of n x + 2 * n + 2 = omega arith in rw i at q

  place : (x g c : ℕ) (t t' : List ℕ) → x < N → x < c → g < n → c ≤ N → TableBeside own n size c t t'
      → EndAlike (suc x) N (OwnRefusal N size) (TableBeside own n size) (own_place t n room N c x g (own x g)) (read_place t' n room c x g (own_number N own x g))
  place x g c t t' hx hc hg most B = go (ℕ_discrete (own x g) 0) (dec_lt N (own x g)) where
    grown : own x g ≡ suc c → suc c ≤ N → length_of t n x ≡ length_of t' n x
        → TableBeside own n size (suc c) (stepped (worded t n c x g (suc (length_of t n x))) n x g c) (stepped (worded t' n c x g (suc (length_of t' n x))) n x g c)
    grown is h len =
        let l = suc (length_of t' n x) in
        let W = beside_word x g l B in
        rw len (beside_step W hg is (omega arith) (omega arith) (rows_fit h W.whole) (omega arith))

    go : Dec (own x g ≡ 0) → Dec (N < own x g)
        → EndAlike (suc x) N (OwnRefusal N size) (TableBeside own n size) (own_place t n room N c x g (own x g)) (read_place t' n room c x g (own_number N own x g))
    go (yes z) d =
        let l : own x g ≤ N = omega arith in
        let v : own x g - 1 ≡ 0 = omega arith in
        rw (← own_missing t n room N c x g (own x g) z, le-ltb N (own x g) l, v, place_old t' n room c x g 0 (omega arith)) (refl, hc, most, beside_missing B hg z)
    go (no z) (yes h) =
        let k : c < suc N = omega arith in
        rw (← own_outside t n room N c x g (own x g) z h, lt-ltb N (own x g) h, place_skip t' n room c x g (suc N) k)
        (let j : N < suc N = omega arith in (rw (lt-ltb N (suc N) j), B.whole))
    go (no z) (no h) =
        let l : own x g ≤ N = omega arith in
        let v = own x g - 1 in
        let is : own x g ≡ suc v = ⊎_elim (λ q. absurd (z q)) (λ q. omega arith) (eq-zero-or-pos (own x g)) in
        let len : length_of t n x ≡ length_of t' n x = letters_at x t t' (B.letters x) in
        rw (← own_read t n room N c x g (own x g) z l, le-ltb N (own x g) l)
        (read_alike N (OwnRefusal N size) (TableBeside own n size) n room x g c v t t' (λ r h. (rw (le-ltb N (refusal_paper r).c h), B.whole)) (omega arith) hi hc most len
        (λ k. beside_step B hg is hc k (rows_fit most B.whole) (omega arith))
        (λ q k. grown (is ∙ ap suc q) (omega arith) len))

  -- The whole reading.
  pub own_beside : EndAlike 1 N (OwnRefusal N size) (TableBeside own n size) (own_all own n room N (replicate size 0)) (read_all (own_number N own) n room (replicate size 0))
  own_beside = all_alike N (OwnRefusal N size) (TableBeside own n size) own (own_number N own) n room place lo hi beside_start
