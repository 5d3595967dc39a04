-- The reading of a builder's own rows beside a reading of composed numbers: where both do the same at each place, they come to the same.
use Prim.Native.Nat.{ℕ, zero, suc, ◌+◌, ◌≤◌, ◌<◌}
use mathlib.Core.Path.{◌≡◌, refl, sym, subst}
use mathlib.Core.Bool.{Bool, true, false}
use mathlib.Core.List.{List}
use native.Mathlib.Decide.{dec_lt}
use native.Mathlib.Omega.{arith}
use borrow.Author.Tests.{le-ltb, ltb-true}
use lib.Dec.{ltb}
use Rattle.egg.specs.declared.Refusal.{Refusal}
use Rattle.std.specs.Prelude.{Ok, Err}
use Rattle.egg.specs.Table.{pick, length_of}
use Rattle.egg.specs.Refusals.{refusal_paper}
use Rattle.egg.specs.Answers.{numbered}
use Rattle.build_reading.specs.Reading.{Placed, placed, then_placed, read_place, read_row, read_from, read_all}
use Rattle.builder_rereading.specs.Own.{own_place, own_row, own_from, own_all}
use Rattle.theory.proofs.Induction.{Order, less, equal, more, order}
use Rattle.build_reading_laws.proofs.Stores.{stepped, worded}
use Rattle.build_reading_laws.proofs.ReadingState.{place_skip, place_old, place_long, place_new}

-- Both came to one count, from `lo` to N, with tables that are as S says; or both were refused, as R says.
abbrev pub EndAlike : ℕ → ℕ → (Refusal → Refusal → List ℕ → List ℕ → Type 0) → (ℕ → List ℕ → List ℕ → Type 0) → Placed → Placed → Type 0
EndAlike lo N R S (placed (Ok c) t) (placed (Ok c') t') = (c' ≡ c) × (lo ≤ c) × (c ≤ N) × S c t t'
EndAlike lo N R S (placed (Ok c) t) (placed (Err r) t') = ⊥
EndAlike lo N R S (placed (Err s) t) (placed (Ok c) t') = ⊥
EndAlike lo N R S (placed (Err s) t) (placed (Err r) t') = R s r t t'

module _ (N : ℕ) (R : Refusal → Refusal → List ℕ → List ℕ → Type 0) (S : ℕ → List ℕ → List ℕ → Type 0) where
  then_alike : (lo lo' : ℕ) (p p' : Placed) (f f' : ℕ → List ℕ → Placed) → EndAlike lo N R S p p'
      → ((c : ℕ) (t t' : List ℕ) → lo ≤ c → c ≤ N → S c t t' → EndAlike lo' N R S (f c t) (f' c t')) → EndAlike lo' N R S (then_placed p f) (then_placed p' f')
  then_alike lo lo' (placed (Ok c) t) (placed (Ok c') t') f f' a k =
      subst (λ (d : ℕ). EndAlike lo' N R S (f c t) (f' d t')) (sym a.0) (k c t t' a.1 a.2 a.3)
  then_alike lo lo' (placed (Ok c) t) (placed (Err r) t') f f' a k = absurd a
  then_alike lo lo' (placed (Err s) t) (placed (Ok c) t') f f' a k = absurd a
  then_alike lo lo' (placed (Err s) t) (placed (Err r) t') f f' a k = a

  pick_alike : (lo : ℕ) (b : Bool) (p p' q q' : Placed) → (b ≡ true → EndAlike lo N R S p p') → (b ≡ false → EndAlike lo N R S q q')
      → EndAlike lo N R S (pick b p q) (pick b p' q')
  pick_alike lo true p p' q q' f g = f refl
  pick_alike lo false p p' q q' f g = g refl

  module _ (own src : ℕ → ℕ → ℕ) (n room : ℕ)
      (place : (x g c : ℕ) (t t' : List ℕ) → x < N → x < c → g < n → c ≤ N → S c t t'
      → EndAlike (suc x) N R S (own_place t n room N c x g (own x g)) (read_place t' n room c x g (src x g))) where
    row_alike : (k x g c : ℕ) (t t' : List ℕ) → g + k ≡ n → x < N → x < c → c ≤ N → S c t t'
        → EndAlike (suc x) N R S (own_row k own n room N x g c t) (read_row k src n room x g c t')
    unfolding own_row read_row
    row_alike zero x g c t t' q hx lo hi s = (refl, lo, hi, s)
    row_alike (suc k) x g c t t' q hx lo hi s =
        then_alike (suc x) (suc x) (own_place t n room N c x g (own x g)) (read_place t' n room c x g (src x g)) _ _
        (place x g c t t' hx lo (omega arith) hi s)
        (λ d u u' a b z. row_alike k x (g + 1) d u u' (omega arith) hx a b z)

    from_alike : (k m e c : ℕ) (t t' : List ℕ) → e + k ≡ N → k ≤ m → 1 ≤ c → c ≤ N → S c t t'
        → EndAlike 1 N R S (own_from k own n room N e c t) (read_from m src n room e c t')
    unfolding own_from read_from
    from_alike zero zero e c t t' q h lo hi s = (refl, lo, hi, s)
    from_alike zero (suc m) e c t t' q h lo hi s = let z : c ≤ e = omega arith in rw (le-ltb e c z) (refl, lo, hi, s)
    from_alike (suc k) zero e c t t' q h lo hi s = absurd (omega arith)
    from_alike (suc k) (suc m) e c t t' q h lo hi s =
        pick_alike 1 (ltb e c) (then_placed (own_row n own n room N e 0 c t) (λ d u. own_from k own n room N (e + 1) d u))
        (then_placed (read_row n src n room e 0 c t') (λ d u. read_from m src n room (e + 1) d u)) (placed (Ok c) t) (placed (Ok c) t')
        (λ b. then_alike (suc e) 1 (own_row n own n room N e 0 c t) (read_row n src n room e 0 c t') _ _
        (row_alike n e 0 c t t' (omega arith) (omega arith) (ltb-true e c b) hi s)
        (λ d u u' a z y. from_alike k m (e + 1) d u u' (omega arith) (omega arith) (omega arith) z y))
        (λ b. (refl, lo, hi, s))

    pub all_alike : {t t' : List ℕ} → 1 ≤ N → N ≤ room → S 1 t t' → EndAlike 1 N R S (own_all own n room N t) (read_all src n room t')
    all_alike {t} {t'} lo hi s = from_alike N room 0 1 t t' (omega arith) hi (omega arith) lo s

  -- One place at which both read the number v, where what is stored keeps S.
  module _ (n room x g c v : ℕ) (t t' : List ℕ) (named : (r : Refusal) → (refusal_paper r).c ≤ N → R r r t t') (within : v < N) (fits : N ≤ room) (hx : x < c) (hi : c ≤ N) (letters : length_of t n x ≡ length_of t' n x)
      (old : v < c → S c (stepped t n x g v) (stepped t' n x g v))
      (new : v ≡ c → length_of t n x < 4096
      → S (suc c) (stepped (worded t n c x g (suc (length_of t n x))) n x g c) (stepped (worded t' n c x g (suc (length_of t' n x))) n x g c)) where
    pub read_alike : EndAlike (suc x) N R S (read_place t n room c x g v) (read_place t' n room c x g v)
    read_alike = go (order v c) (dec_lt (length_of t n x) 4096) where
      go : Order v c → Dec (length_of t n x < 4096) → EndAlike (suc x) N R S (read_place t n room c x g v) (read_place t' n room c x g v)
      go (less h) d = rw (place_old t n room c x g v h, place_old t' n room c x g v h) (refl, hx, hi, old h)
      go (more h) d = rw (place_skip t n room c x g v h, place_skip t' n room c x g v h) (named (numbered 7 x g v) (omega arith))
      go (equal h) (no l) =
          let a : 4096 ≤ length_of t n x = omega arith in
          let b : 4096 ≤ length_of t' n x = rw (← letters) a in
          rw (place_long t n room c x g v h (omega arith) a, place_long t' n room c x g v h (omega arith) b) (named (numbered 6 x g 0) (omega arith))
      go (equal h) (yes l) =
          let b : length_of t' n x < 4096 = rw (← letters) l in
          rw (place_new t n room c x g v h (omega arith) l, place_new t' n room c x g v h (omega arith) b) (refl, omega arith, omega arith, new h l)
