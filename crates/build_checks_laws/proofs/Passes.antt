-- A test that is refused is not passed: what each test of numbers shows where it is fine.
use Prim.Native.Nat.{ℕ, zero, suc, ◌+◌, ◌≤◌, ◌<◌}
use mathlib.Core.Path.{◌≡◌, refl, ap, ◌∙◌}
use mathlib.Core.Logic.{◌↔◌, ◌⊎◌, inl, inr}
use mathlib.Core.Bool.{Bool, true, false}
use native.Mathlib.Nat.{eq-or-lt_of_le}
use native.Mathlib.Omega.{arith}
use borrow.Author.Tests.{eqb-true, eqb-false, ltb-true, ltb-false, leb-true, leb-false}
use lib.Dec.{eqb, ltb, leb}
use Rattle.egg.specs.declared.Refusal.{Refusal}
use Rattle.egg.specs.Answers.{Verdict, fine}
use Rattle.std.specs.Prelude.{Err}
use Rattle.egg.specs.Table.{pick}
use Rattle.egg.specs.Scan.{and_then, scan}
use Rattle.egg.proofs.Scans.{refused_fine}

-- One test and what comes after it: the test holds, or fails, and the rest is fine.
module _ (a b : ℕ) (r : Refusal) (v : Verdict) where
  pub eq_then : pick (eqb a b) v (Err r) ≡ fine ↔ ((a ≡ b) × (v ≡ fine))
  eq_then = by (eqb a b) refl where
    by : (t : Bool) → eqb a b ≡ t → pick t v (Err r) ≡ fine ↔ ((a ≡ b) × (v ≡ fine))
    by true e = (λ h. (eqb-true a b e, h), λ h. h.1)
    by false e = (λ h. absurd (refused_fine h), λ h. absurd (eqb-false a b e h.0))

  pub ne_then : pick (eqb a b) (Err r) v ≡ fine ↔ ((a ≡ b → ⊥) × (v ≡ fine))
  ne_then = by (eqb a b) refl where
    by : (t : Bool) → eqb a b ≡ t → pick t (Err r) v ≡ fine ↔ ((a ≡ b → ⊥) × (v ≡ fine))
    by true e = (λ h. absurd (refused_fine h), λ h. absurd (h.0 (eqb-true a b e)))
    by false e = (λ h. (eqb-false a b e, h), λ h. h.1)

  pub le_then : pick (ltb a b) (Err r) v ≡ fine ↔ ((b ≤ a) × (v ≡ fine))
  le_then = by (ltb a b) refl where
    by : (t : Bool) → ltb a b ≡ t → pick t (Err r) v ≡ fine ↔ ((b ≤ a) × (v ≡ fine))
    by true e = (λ h. absurd (refused_fine h), λ h. absurd (omega (arith, ltb-true a b e)))
    by false e = (λ h. (ltb-false a b e, h), λ h. h.1)

  pub lt_then : pick (leb a b) (Err r) v ≡ fine ↔ ((b < a) × (v ≡ fine))
  lt_then = by (leb a b) refl where
    by : (t : Bool) → leb a b ≡ t → pick t (Err r) v ≡ fine ↔ ((b < a) × (v ≡ fine))
    by true e = (λ h. absurd (refused_fine h), λ h. absurd (omega (arith, leb-true a b e)))
    by false e = (λ h. (leb-false a b e, h), λ h. h.1)

-- The same as the last test.
module _ (a b : ℕ) (r : Refusal) where
  pub eq_passes : pick (eqb a b) fine (Err r) ≡ fine ↔ (a ≡ b)
  eq_passes = (λ h. ((eq_then a b r fine).0 h).0, λ h. (eq_then a b r fine).1 (h, refl))

  pub ne_passes : pick (eqb a b) (Err r) fine ≡ fine ↔ (a ≡ b → ⊥)
  ne_passes = (λ h. ((ne_then a b r fine).0 h).0, λ h. (ne_then a b r fine).1 (h, refl))

  pub le_passes : pick (ltb a b) (Err r) fine ≡ fine ↔ (b ≤ a)
  le_passes = (λ h. ((le_then a b r fine).0 h).0, λ h. (le_then a b r fine).1 (h, refl))

  pub lt_passes : pick (leb a b) (Err r) fine ≡ fine ↔ (b < a)
  lt_passes = (λ h. ((lt_then a b r fine).0 h).0, λ h. (lt_then a b r fine).1 (h, refl))

-- One test for the identity and another for the rest; or none for the identity.
pub first_or : (e : ℕ) (u v : Verdict) → pick (eqb e 0) u v ≡ fine ↔ ((e ≡ 0 → u ≡ fine) × (0 < e → v ≡ fine))
first_or e u v = by (eqb e 0) refl where
  by : (t : Bool) → eqb e 0 ≡ t → pick t u v ≡ fine ↔ ((e ≡ 0 → u ≡ fine) × (0 < e → v ≡ fine))
  by true q = (λ h. (λ _. h, λ p. absurd (omega (arith, eqb-true e 0 q))), λ h. h.0 (eqb-true e 0 q))
  by false q = (λ h. (λ z. absurd (eqb-false e 0 q z), λ _. h), λ h. h.1 (omega (arith, eqb-false e 0 q)))

pub unless_first : (e : ℕ) (v : Verdict) → pick (eqb e 0) fine v ≡ fine ↔ (0 < e → v ≡ fine)
unless_first e v = (λ h. ((first_or e fine v).0 h).1, λ h. (first_or e fine v).1 (λ _. refl, h))

-- A scan stops at the first place that refuses.
pub scan_stops : (k : ℕ) (f : ℕ → Verdict) (i j : ℕ) {r : Refusal} → i ≤ j → j < i + k → f j ≡ Err r → ((l : ℕ) → i ≤ l → l < j → f l ≡ fine)
    → scan k f i ≡ Err r
unfolding scan
scan_stops zero f i j a b h before = absurd (omega arith)
scan_stops (suc k) f i j {r} a b h before = go (eq-or-lt_of_le a) (λ l. scan_stops k f (i + 1) j (omega arith) (omega arith) h (λ m p q. before m (omega arith) q)) where
  go : (i ≡ j) ⊎ (i < j) → (i < j → scan k f (i + 1) ≡ Err r) → and_then (f i) (scan k f (i + 1)) ≡ Err r
  go (inl q) rest = rw (ap f q ∙ h)
  go (inr l) rest = rw (before i (omega arith) l) (rest l)
