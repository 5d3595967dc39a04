-- By which numbers a reading of a builder's own rows is refused, and what a builder that lacks something has.
use Rattle.egg.specs.Refusals.{refusal_paper}
use Prim.Native.Nat.{ℕ, ◌≤◌, ◌<◌}
use mathlib.Core.Path.{◌≡◌, refl}
use mathlib.Core.Logic.{⊎_elim}
use mathlib.Core.Bool.{Bool, true, false}
use mathlib.Core.List.{[], ◌∷◌}
use native.Mathlib.Decide.{dec_lt}
use native.Mathlib.Omega.{arith}
use borrow.Author.Tests.{lt-ltb, le-ltb}
use lib.Dec.{ltb}
use Rattle.egg.specs.declared.Refusal.{Refusal}
use Rattle.egg.specs.Table.{pick}
use Rattle.egg.specs.Answers.{numbered}
use Rattle.theory.specs.Numbering.{Known, start, old, new, next_row}
use Rattle.theory.proofs.Counting.{appeared}
use Rattle.build_checks_laws.specs.Numbers.{member}
use Rattle.build_reading_laws.specs.Read.{Stops, skips_ahead, no_room, long_word, ReadingRefused}
use Rattle.build_reading_laws.proofs.Readings.{refused_number}
use Rattle.promises_builder.specs.Own.{own_number, own_refusal}
use Rattle.promises_builder.specs.Refusals.{AllThere, AllLedTo, BuilderLacks, no_successor, no_predecessor, not_reached}

-- No number that is read is N itself, so that N elements are never passed, and there is room: 5 cannot come.
module _ (own : ℕ → ℕ → ℕ) (n room N : ℕ) (lo : 1 ≤ N) (hi : N ≤ room) where
  never_N : (y h : ℕ) → own_number N own y h ≡ N → ⊥
  never_N y h q = by (dec_lt N (own y h)) where
    by : Dec (N < own y h) → ⊥
    by (yes l) = omega (arith, rw (lt-ltb N (own y h) l) at q)
    by (no l) = let k : own y h ≤ N = omega arith in omega (arith, rw (le-ltb N (own y h) k) at q)

  never_5 : {r : Refusal} → ReadingRefused (own_number N own) n room r → (refusal_paper r).number ≡ 5 → ⊥
  never_5 F five = go F.before.known F.stops five where
    go : {x g c : ℕ} {r : Refusal} → Known n (own_number N own) x g c → Stops (own_number N own) n room x g c r → (refusal_paper r).number ≡ 5 → ⊥
    go K (skips_ahead l) q = omega arith
    go K (long_word p l w) q = omega arith
    go {x} {g} {c} K (no_room is full) q = by (dec_lt N c) where
      by : Dec (N < c) → ⊥
      by (yes l) = let a = appeared K lo l in never_N a.0 a.1 a.2.arrives
      by (no l) = never_N x g (omega arith)

  -- So a reading of the builder's rows is refused by 6, 7 or 17.
  pub own_stop_number : {r : Refusal} → ReadingRefused (own_number N own) n room r → member (refusal_paper (own_refusal N r)).number (6 ∷ 7 ∷ 17 ∷ []) ≡ true
  own_stop_number {r} F = by (ltb N (refusal_paper r).c) where
    by : (d : Bool) → member (refusal_paper (pick d (numbered 17 0 0 0) r)).number (6 ∷ 7 ∷ 17 ∷ []) ≡ true
    by true = refl
    by false = ⊎_elim (λ q. rw q) (λ a. ⊎_elim (λ q. absurd (never_5 F q)) (λ q. rw q) a) (refused_number F)

-- Without generators only the identity is reached.
pub alone : {n : ℕ} {src : ℕ → ℕ → ℕ} {x g c : ℕ} → n ≡ 0 → Known n src x g c → c ≡ 1
alone z start = refl
alone z (old K h l) = absurd (omega arith)
alone z (new K h l) = absurd (omega arith)
alone z (next_row K l) = absurd (omega (arith, alone z K))

-- What lacks something has a generator; and nothing is lacking where every step and every arrival is there.
pub some_generator : {own : ℕ → ℕ → ℕ} {n N c : ℕ} {r : Refusal} → BuilderLacks own n N c r → n ≡ 0 → ⊥
some_generator (no_successor e g he hg z b) q = omega arith
some_generator (not_reached A pos less) q = omega arith
some_generator (no_predecessor e g A all he hg x b) q = omega arith

pub nothing_lacks : {own : ℕ → ℕ → ℕ} {n N : ℕ} {r : Refusal} → AllThere own n N → AllLedTo own n N → BuilderLacks own n N N r → ⊥
nothing_lacks A L (no_successor e g he hg z b) = A e g he hg z
nothing_lacks A L (not_reached A' pos less) = omega arith
nothing_lacks A L (no_predecessor e g A' all he hg x b) = L e g he hg x
