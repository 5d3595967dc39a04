-- Laws of a visit and of the run: one for each answer, over plain values, so that a proof only hands over what its calls ensure.
use Prim.Native.Nat.{ℕ, zero, suc, ◌+◌, ◌-◌, ◌≤◌, ◌<◌}
use mathlib.Core.Path.{◌≡◌, refl, sym, ◌∙◌}
use mathlib.Core.List.{List}
use native.Mathlib.Omega.{arith}
use borrow.Author.Tests.{eq-eqb, ne_eqb, lt-ltb, le-ltb}
use lib.ListN.{get_or, replicate}
use Rattle.egg.specs.declared.GroupElementId.{GroupElementId}
use Rattle.egg.specs.declared.GeneratorId.{GeneratorId}
use Rattle.egg.specs.declared.Refusal.{Refusal}
use Rattle.egg.specs.Answers.{Counted, Reached}
use Rattle.std.specs.Prelude.{Ok, Err}
use Rattle.egg.specs.Table.{succ_at}
use Rattle.build_reading.specs.Build.{set_step, adds}
use Rattle.enumeration_run.specs.declared.inner.Run.{Run}
use Rattle.enumeration_run.specs.declared.inner.Ran.{Ran}
use Rattle.enumeration_run.specs.declared.inner.Ran.TheVariants as ran
use Rattle.enumeration_run.specs.Run.{advanced, start_of_run}
use Rattle.enumeration_quick_loops.specs.Loops.{loop_from}
use Rattle.enumeration_quick_run.specs.Sweeps.{Swept, swept, settles, sweeps, sweep, sweep_from, swiftly}

-- A step that is not known.
module _ (n room count : ℕ) (e : GroupElementId) (g : GeneratorId) (t : List ℕ) {loop : ℕ} where
  pub settles_closed : (loop ≡ 0 → ⊥) → {t₁ t₂ : List ℕ} → t₁ ≡ set_step t n e g (record { 0 = loop - 1 })
      → t₂ ≡ set_step t₁ n (record { 0 = loop - 1 }) g e → swept (Ok count) t₂ ≡ settles n room count e g loop t
  unfolding settles
  settles_closed z p q = rw (q, p) (simp (ne_eqb _ _ z))

  module _ (z : loop ≡ 0) {a : Reached} {t₁ : List ℕ} (p : a ≡ (adds t n room count e g).answer) (d : t₁ ≡ (adds t n room count e g).table) where
    pub settles_refused : {why : Refusal} → a ≡ Err why → swept (Err why) t₁ ≡ settles n room count e g loop t
    unfolding settles
    settles_refused {why} h =
        let q : (adds t n room count e g).answer ≡ Err why = sym p ∙ h in
        simp (eq-eqb _ _ z) (rw (q, d))

    pub settles_new : {new : GroupElementId} {t₂ : List ℕ} → a ≡ Ok new → t₂ ≡ set_step t₁ n new g e
        → swept (Ok (count + 1)) t₂ ≡ settles n room count e g loop t
    unfolding settles
    settles_new {new} h i =
        let q : (adds t n room count e g).answer ≡ Ok new = sym p ∙ h in
        simp (eq-eqb _ _ z) (rw (q, i, d))

-- A place.
module _ (n : ℕ) (o : List ℕ) (room count : ℕ) (e : GroupElementId) (g : GeneratorId) (t : List ℕ) {x : ℕ} (c : x ≡ get_or t (succ_at n e g) 0) where
  pub sweeps_known : (x ≡ 0 → ⊥) → swept (Ok count) t ≡ sweeps n o room count e g t
  unfolding sweeps
  sweeps_known z = rw (← c) (simp (ne_eqb _ _ z))

  pub sweeps_settles : x ≡ 0 → {loop : ℕ} {v : Swept} → loop ≡ loop_from n t o n e.0 g.0 0 → v ≡ settles n room count e g loop t
      → v ≡ sweeps n o room count e g t
  unfolding sweeps
  sweeps_settles z l q = q ∙ rw (← c, l) (simp (eq-eqb _ _ z))

-- The loop over places: at most `k` are left.
module _ (n : ℕ) (o : List ℕ) (room : ℕ) (at : Run) (t : List ℕ) where
  pub sweep_done : (k : ℕ) → at.count ≤ at.element → sweep (ran.Done at.count) t ≡ sweep_from k n o room at t
  unfolding sweep_from
  sweep_done zero h = simp (le-ltb _ _ h)
  sweep_done (suc k) h = simp (le-ltb _ _ h)

  pub sweep_paused : (k : ℕ) → at.element < at.count → k ≡ 0 → sweep (ran.Paused at) t ≡ sweep_from k n o room at t
  unfolding sweep_from
  sweep_paused k h z = rw z (simp (lt-ltb _ _ h))

  module _ {r : Counted} {t₁ : List ℕ} (h : at.element < at.count)
      (q : swept r t₁ ≡ sweeps n o room at.count (record { 0 = at.element }) (record { 0 = at.generator }) t) where
    pub sweep_refused : (k : ℕ) → (k ≡ 0 → ⊥) → {why : Refusal} → r ≡ Err why → sweep (ran.Refused why) t₁ ≡ sweep_from k n o room at t
    unfolding sweep_from
    sweep_refused zero p i = absurd (p refl)
    sweep_refused (suc k) p i = rw (lt-ltb _ _ h, ← q, i)

    pub sweep_turn : (k : ℕ) → (k ≡ 0 → ⊥) → {c : ℕ} {at₁ : Run} → r ≡ Ok c → at₁ ≡ advanced n at c
        → sweep_from (k - 1) n o room at₁ t₁ ≡ sweep_from k n o room at t
    unfolding sweep_from
    sweep_turn zero p i j = absurd (p refl)
    sweep_turn (suc k) p i j = let m : suc k - 1 ≡ k = omega arith in rw (m, lt-ltb _ _ h, ← q, i, j)

-- The whole run.
module _ (n : ℕ) (o : List ℕ) (room lt : ℕ) {t₁ : List ℕ} (a : t₁ ≡ replicate lt 0) where
  pub swiftly_none : n ≡ 0 → sweep (ran.Done 1) t₁ ≡ swiftly n o room lt
  unfolding swiftly
  swiftly_none h = simp (eq-eqb _ _ h) (rw a)

  pub swiftly_some : (n ≡ 0 → ⊥) → {r : Ran} {t₂ : List ℕ} → sweep r t₂ ≡ sweep_from 18446744073709551615 n o room start_of_run t₁
      → sweep r t₂ ≡ swiftly n o room lt
  unfolding swiftly
  swiftly_some h q = simp (ne_eqb _ _ h) (q ∙ rw a)
