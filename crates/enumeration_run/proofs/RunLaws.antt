-- Laws of a visit and of the run: one for each answer, over plain values, so that a proof only hands over what its calls ensure.
use Prim.Native.Nat.{ℕ, zero, suc, ◌+◌, ◌-◌, ◌≤◌, ◌<◌}
use mathlib.Core.Path.{◌≡◌, refl, sym, ap, ◌∙◌}
use mathlib.Core.Bool.{Bool, true, false}
use mathlib.Core.List.{List}
use native.Mathlib.Omega.{arith}
use borrow.Author.Tests.{eq-eqb, ne_eqb, lt-ltb, le-ltb, leb-true, leb-false, ltb-true}
use lib.Dec.{leb, ltb}
use lib.ListN.{get_or, replicate}
use Rattle.egg.specs.declared.GroupElementId.{GroupElementId}
use Rattle.egg.specs.declared.GeneratorId.{GeneratorId}
use Rattle.egg.specs.declared.Refusal.{Refusal}
use Rattle.egg.specs.Answers.{Counted, Reached}
use Rattle.std.specs.Prelude.{Ok, Err}
use Rattle.egg.specs.Table.{put_at, succ_at}
use Rattle.build_reading.specs.Build.{set_step, Adds, adds}
use Rattle.build_reading.proofs.Laws.{adds_full}
use Rattle.enumeration_rows.specs.Rows.{place_at, added_rows}
use Rattle.enumeration_run.specs.declared.inner.Run.{Run}
use Rattle.enumeration_run.specs.declared.inner.Ran.{Ran}
use Rattle.enumeration_run.specs.declared.inner.Ran.TheVariants as ran
use Rattle.enumeration_wake.specs.Waking.{State, state, link, below_at}
use Rattle.enumeration_facts.specs.Facts.{settled}
use Rattle.enumeration_run.specs.Run.{discovered, visit, visits, advanced, outcome, runs, start_of_run, enumerated}

module _ (n : ℕ) (o : List ℕ) (e : GroupElementId) (g : GeneratorId) (new : GroupElementId) (t w : List ℕ) where
  pub discovered_by : {t₁ t₂ w₁ w₂ w₃ : List ℕ} {x : ℕ} → t₁ ≡ set_step t n new g e → w₁ ≡ added_rows w o n new
      → w₂ ≡ put_at w₁ (below_at (place_at n e g)) 0 → state t₂ w₃ x ≡ settled n (state t₁ w₂ (link n e g))
      → (t₂ ≡ (discovered n o e g new t w).table) × (w₃ ≡ (discovered n o e g new t w).work)
  unfolding discovered
  discovered_by {t₁} {t₂} {w₁} {w₂} {w₃} {x} a b c d =
      let q : state t₂ w₃ x ≡ settled n (state (set_step t n new g e) (put_at (added_rows w o n new) (below_at (place_at n e g)) 0) (link n e g)) = cc in
      (ap (λ (s : State). s.table) q, ap (λ (s : State). s.work) q)

no : ◌≡◌ {A = ℕ} 0 1 → ⊥
no z = omega arith

module _ (n : ℕ) (o : List ℕ) (room count : ℕ) (e : GroupElementId) (g : GeneratorId) (t w : List ℕ) where
  -- An element that was added had room.
  pub adds_room : {new : GroupElementId} → (adds t n room count e g).answer ≡ Ok new → count < room
  adds_room {new} h = by_test (leb room count) refl
    where
      by_test : (b : Bool) → leb room count ≡ b → count < room
      by_test true q = let z : ◌≡◌ {A = ℕ} 0 1 = cc (ap (λ (a : Adds). a.answer) (adds_full t n room count e g (leb-true _ _ q))) in absurd (no z)
      by_test false q = leb-false _ _ q

  module _ {x : ℕ} (c : x ≡ get_or t (succ_at n e g) 0) where
    pub visit_known : (x ≡ 0 → ⊥) → visit (Ok count) t w ≡ visits n o room count e g t w
    unfolding visits
    visit_known z = rw (← c) (simp (ne_eqb _ _ z))

    module _ (z : x ≡ 0) {a : Reached} {t₁ : List ℕ} (p : a ≡ (adds t n room count e g).answer) (d : t₁ ≡ (adds t n room count e g).table) where
      pub visit_refused : {why : Refusal} → a ≡ Err why → visit (Err why) t₁ w ≡ visits n o room count e g t w
      unfolding visits
      visit_refused {why} h =
          let q : (adds t n room count e g).answer ≡ Err why = sym p ∙ h in
          rw (← c) (simp (eq-eqb _ _ z) (rw (q, d)))

      pub visit_new : {new : GroupElementId} {t₂ w₂ : List ℕ} → a ≡ Ok new → t₂ ≡ (discovered n o e g new t₁ w).table
          → w₂ ≡ (discovered n o e g new t₁ w).work → visit (Ok (count + 1)) t₂ w₂ ≡ visits n o room count e g t w
      unfolding visits
      visit_new {new} h i j =
          let q : (adds t n room count e g).answer ≡ Ok new = sym p ∙ h in
          rw (← c) (simp (eq-eqb _ _ z) (rw (q, i, j, d)))

-- The loop over places: at most `k` are left.
module _ (n : ℕ) (o : List ℕ) (room : ℕ) (at : Run) (t w : List ℕ) where
  pub runs_done : (k : ℕ) → at.count ≤ at.element → outcome (ran.Done at.count) t w ≡ runs k n o room at t w
  unfolding runs
  runs_done zero h = simp (le-ltb _ _ h)
  runs_done (suc k) h = simp (le-ltb _ _ h)

  pub runs_paused : (k : ℕ) → at.element < at.count → k ≡ 0 → outcome (ran.Paused at) t w ≡ runs k n o room at t w
  unfolding runs
  runs_paused k h z = rw z (simp (lt-ltb _ _ h))

  module _ {r : Counted} {t₁ w₁ : List ℕ} (k : ℕ) (h : at.element < at.count) (p : k ≡ 0 → ⊥)
      (q : visit r t₁ w₁ ≡ visits n o room at.count (record { 0 = at.element }) (record { 0 = at.generator }) t w) where
    pub runs_refused : {why : Refusal} → r ≡ Err why → outcome (ran.Refused why) t₁ w₁ ≡ runs k n o room at t w
    unfolding runs
    runs_refused i = refused k p i
      where
        refused : (k : ℕ) → (k ≡ 0 → ⊥) → {why : Refusal} → r ≡ Err why → outcome (ran.Refused why) t₁ w₁ ≡ runs k n o room at t w
        refused zero p i = absurd (p refl)
        refused (suc k) p i = rw (lt-ltb _ _ h, ← q, i)

    pub runs_turn : {c : ℕ} {at₁ : Run} → r ≡ Ok c → at₁ ≡ advanced n at c → runs (k - 1) n o room at₁ t₁ w₁ ≡ runs k n o room at t w
    unfolding runs
    runs_turn i j = turn k p i j
      where
        turn : (k : ℕ) → (k ≡ 0 → ⊥) → {c : ℕ} {at₁ : Run} → r ≡ Ok c → at₁ ≡ advanced n at c
            → runs (k - 1) n o room at₁ t₁ w₁ ≡ runs k n o room at t w
        turn zero p i j = absurd (p refl)
        turn (suc k) p i j = let m : suc k - 1 ≡ k = omega arith in rw (m, lt-ltb _ _ h, ← q, i, j)

pub advanced_generator : (n : ℕ) (at : Run) (c : ℕ) → at.generator < n → (advanced n at c).generator < n
unfolding advanced
advanced_generator n at c h = by_test (ltb (at.generator + 1) n) refl
  where
    by_test : (b : Bool) → ltb (at.generator + 1) n ≡ b → (advanced n at c).generator < n
    by_test true q = rw q (ltb-true _ _ q)
    by_test false q = rw q (omega arith)

module _ (n : ℕ) (o : List ℕ) (room lt lw : ℕ) {t₁ w₁ w₂ : List ℕ} (a : t₁ ≡ replicate lt 0) (b : w₁ ≡ replicate lw 0)
    (c : w₂ ≡ added_rows w₁ o n (record { 0 = 0 })) where
  pub enumerated_none : n ≡ 0 → outcome (ran.Done 1) t₁ w₂ ≡ enumerated n o room lt lw
  unfolding enumerated
  enumerated_none h = simp (eq-eqb _ _ h) (cc)

  pub enumerated_some : {r : Ran} {t₂ w₃ : List ℕ} → (n ≡ 0 → ⊥)
      → outcome r t₂ w₃ ≡ runs 18446744073709551615 n o room start_of_run t₁ w₂ → outcome r t₂ w₃ ≡ enumerated n o room lt lw
  unfolding enumerated
  enumerated_some h q = simp (ne_eqb _ _ h) (cc)
