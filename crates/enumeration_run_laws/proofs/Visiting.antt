-- A run that is done with N elements visits N · n places: with an allowance of so many it is the same, and with fewer it is paused.
use Prim.Native.Nat.{ℕ, zero, suc, ◌+◌, ◌*◌, ◌<◌, ◌≤◌}
use mathlib.Core.Path.{◌≡◌, refl, sym, ap, ◌∙◌, subst}
use mathlib.Core.Bool.{Bool, true, false}
use mathlib.Core.List.{List}
use native.Mathlib.Nat.{le_refl, mul-le-mul_right}
use native.Mathlib.Omega.{arith}
use borrow.Author.Tests.{ltb-true, ltb-false, ne_eqb}
use lib.ListN.{replicate}
use lib.Dec.{ltb}
use Rattle.egg.specs.declared.GroupElementId.{GroupElementId}
use Rattle.egg.specs.declared.GeneratorId.{GeneratorId}
use Rattle.egg.specs.Answers.{Counted, Reached}
use Rattle.std.specs.Prelude.{Ok, Err}
use Rattle.egg.specs.Table.{pick}
use Rattle.build_reading.specs.Build.{is_new, adds}
use Rattle.enumeration_rows.specs.Rows.{added_rows}
use Rattle.enumeration_run.specs.Run.{discovered, Visit, visit, after_reaching, visits, advanced, RunResult, outcome, on_visit, runs, start_of_run, enumerated}
use Rattle.enumeration_run.specs.declared.inner.Run.{Run}
use Rattle.enumeration_run.specs.declared.inner.Ran.TheVariants as ran
use Rattle.enumeration_run_laws.specs.Paused.{IsDone, IsPaused, done_of}
use Rattle.egg.proofs.Cells.{inside}

-- The number of a place, in the order of visits.
abbrev pub place : ℕ → Run → ℕ
place n at = at.element * n + at.generator

-- The next place has a generator too, and is one further.
pub next : (n : ℕ) (at : Run) (c : ℕ) → at.generator < n → ((advanced n at c).generator < n) × ((advanced n at c).count ≡ c) × (place n (advanced n at c) ≡ place n at + 1)
unfolding advanced
next n at c h = by (ltb (at.generator + 1) n) refl where
  by : (b : Bool) → ltb (at.generator + 1) n ≡ b
      → let x = pick {A = Run} b (record { element = at.element; generator = at.generator + 1; count = c }) (record { element = at.element + 1; generator = 0; count = c }) in
      (x.generator < n) × (x.count ≡ c) × (place n x ≡ place n at + 1)
  by true q = (ltb-true _ _ q, refl, omega arith)
  by false q = (omega arith, refl, omega (arith, ltb-false (at.generator + 1) n q))

-- A visit adds an element or none.
abbrev Grows : ℕ → Counted → Type 0
Grows count (Ok c) = count ≤ c
Grows count (Err r) = Unit {0}

module _ (n : ℕ) (o : List ℕ) (room : ℕ) where
  visits_grow : (count : ℕ) (e : GroupElementId) (g : GeneratorId) (t w : List ℕ) → Grows count (visits n o room count e g t w).answer
  unfolding visits
  visits_grow count e g t w = by (is_new t n e g) (adds t n room count e g).answer (adds t n room count e g).table where
    by : (b : Bool) (a : Reached) (t₀ : List ℕ)
        → Grows count
        (pick {A = Visit} b
        (after_reaching a t₀ (λ new t₁. visit (Ok (count + 1)) (discovered n o e g new t₁ w).table (discovered n o e g new t₁ w).work) (λ why t₁. visit (Err why) t₁ w))
        (visit (Ok count) t w)).answer
    by true (Ok x) t₀ = omega arith
    by true (Err r) t₀ = tt
    by false a t₀ = le_refl count

  abbrev here : Run → List ℕ → List ℕ → Visit
  here at t w = visits n o room at.count (record { 0 = at.element }) (record { 0 = at.generator }) t w

  -- What comes after a visit, by its answer.
  abbrev then : ℕ → Run → Counted → List ℕ → List ℕ → RunResult
  then k at a t w = on_visit {A = RunResult} a t w (λ c t₁ w₁. runs k n o room (advanced n at c) t₁ w₁) (λ why t₁ w₁. outcome (ran.Refused why) t₁ w₁)

  -- The count at the end is no less than at any place.
  grows : (k : ℕ) (at : Run) (t w : List ℕ) → at.generator < n → IsDone (runs k n o room at t w).answer → at.count ≤ done_of (runs k n o room at t w).answer
  unfolding runs
  grows zero at t w hg d = by (ltb at.element at.count) d where
    by : (b : Bool) → IsDone (pick {A = RunResult} b (outcome (ran.Paused at) t w) (outcome (ran.Done at.count) t w)).answer
        → at.count ≤ done_of (pick {A = RunResult} b (outcome (ran.Paused at) t w) (outcome (ran.Done at.count) t w)).answer
    by true d = absurd d
    by false d = le_refl at.count
  grows (suc k) at t w hg d = by (ltb at.element at.count) d (λ c t₁ w₁ h e. let f = next n at c hg in let i = grows k (advanced n at c) t₁ w₁ f.0 e in omega (arith, f.1)) where
    Rest : Type 0
    Rest = (c : ℕ) (t₁ w₁ : List ℕ) → at.count ≤ c → IsDone (runs k n o room (advanced n at c) t₁ w₁).answer → at.count ≤ done_of (runs k n o room (advanced n at c) t₁ w₁).answer

    go : Rest → (a : Counted) (t₁ w₁ : List ℕ) → Grows at.count a → IsDone (then k at a t₁ w₁).answer → at.count ≤ done_of (then k at a t₁ w₁).answer
    go rest (Ok c) t₁ w₁ h d = rest c t₁ w₁ h d
    go rest (Err r) t₁ w₁ h d = absurd d

    by : (b : Bool) → IsDone (pick {A = RunResult} b (then k at (here at t w).answer (here at t w).table (here at t w).work) (outcome (ran.Done at.count) t w)).answer → Rest
        → at.count ≤ done_of (pick {A = RunResult} b (then k at (here at t w).answer (here at t w).table (here at t w).work) (outcome (ran.Done at.count) t w)).answer
    by true d rest = go rest (here at t w).answer (here at t w).table (here at t w).work (visits_grow at.count (record { 0 = at.element }) (record { 0 = at.generator }) t w) d
    by false d rest = le_refl at.count

  -- The ways in which a run goes on.
  module _ (at : Run) (t w : List ℕ) where
    runs_stop : (k : ℕ) → ltb at.element at.count ≡ false → runs k n o room at t w ≡ outcome (ran.Done at.count) t w
    unfolding runs
    runs_stop zero q = rw q
    runs_stop (suc k) q = rw q

    runs_spent : ltb at.element at.count ≡ true → runs 0 n o room at t w ≡ outcome (ran.Paused at) t w
    unfolding runs
    runs_spent q = rw q

    runs_visit : (k : ℕ) → ltb at.element at.count ≡ true → runs (suc k) n o room at t w ≡ then k at (here at t w).answer (here at t w).table (here at t w).work
    unfolding runs
    runs_visit k q = rw q

  -- The end is at least as far as any place that is visited.
  ahead : (k : ℕ) (at : Run) (t w : List ℕ) → at.generator < n → IsDone (runs k n o room at t w).answer → ltb at.element at.count ≡ true
      → place n at < done_of (runs k n o room at t w).answer * n
  ahead k at t w hg d q =
      let c = grows k at t w hg d in
      let e : at.element < done_of (runs k n o room at t w).answer = omega (arith, ltb-true at.element at.count q) in
      inside e hg

  -- With an allowance of the places that are left the run is the same; with fewer it is paused.
  record Exact (k j : ℕ) (at : Run) (t w : List ℕ) : Type 0 where
    enough : done_of (runs k n o room at t w).answer * n ≤ j + place n at → runs j n o room at t w ≡ runs k n o room at t w
    short : j + place n at < done_of (runs k n o room at t w).answer * n → IsPaused (runs j n o room at t w).answer

  exact_stop : (k j : ℕ) (at : Run) (t w : List ℕ) → ltb at.element at.count ≡ false → Exact k j at t w
  exact_stop k j at t w q = record {
    enough = λ h. runs_stop at t w j q ∙ sym (runs_stop at t w k q);
    short = λ h.
        let f = ltb-false at.element at.count q in
        let b : j + place n at < at.count * n = rw (runs_stop at t w k q) at h in
        absurd (omega (arith, mul-le-mul_right n f));
  }

  exact : (k j : ℕ) (at : Run) (t w : List ℕ) → at.generator < n → IsDone (runs k n o room at t w).answer → Exact k j at t w
  exact zero j at t w hg d = by (ltb at.element at.count) refl where
    by : (b : Bool) → ltb at.element at.count ≡ b → Exact zero j at t w
    by true q = absurd (subst (λ (x : RunResult). IsDone x.answer) (runs_spent at t w q) d)
    by false q = exact_stop zero j at t w q
  exact (suc k) zero at t w hg d = by (ltb at.element at.count) refl where
    by : (b : Bool) → ltb at.element at.count ≡ b → Exact (suc k) zero at t w
    by true q = record { enough = λ h. let a = ahead (suc k) at t w hg d q in absurd (omega arith); short = λ h. rw (runs_spent at t w q) tt }
    by false q = exact_stop (suc k) zero at t w q
  exact (suc k) (suc j) at t w hg d = by (ltb at.element at.count) refl (λ c t₁ w₁ e. exact k j (advanced n at c) t₁ w₁ (next n at c hg).0 e) where
    Rest : Type 0
    Rest = (c : ℕ) (t₁ w₁ : List ℕ) → IsDone (runs k n o room (advanced n at c) t₁ w₁).answer → Exact k j (advanced n at c) t₁ w₁

    -- The same of what comes after the visit.
    go : Rest → (a : Counted) (t₁ w₁ : List ℕ) → IsDone (then k at a t₁ w₁).answer
        → (done_of (then k at a t₁ w₁).answer * n ≤ suc j + place n at → then j at a t₁ w₁ ≡ then k at a t₁ w₁)
        × (suc j + place n at < done_of (then k at a t₁ w₁).answer * n → IsPaused (then j at a t₁ w₁).answer)
    go rest (Ok c) t₁ w₁ d = let r = rest c t₁ w₁ d in let f = next n at c hg in (λ h. r.enough (omega (arith, f.2)), λ h. r.short (omega (arith, f.2)))
    go rest (Err x) t₁ w₁ d = absurd d

    by : (b : Bool) → ltb at.element at.count ≡ b → Rest → Exact (suc k) (suc j) at t w
    by true q rest =
        let v = here at t w in
        let r = go rest v.answer v.table v.work (subst (λ (x : RunResult). IsDone x.answer) (runs_visit at t w k q) d) in
        record {
          enough = λ h. runs_visit at t w j q ∙ r.0 (rw (runs_visit at t w k q) at h) ∙ sym (runs_visit at t w k q);
          short = λ h. rw (runs_visit at t w j q) (r.1 (rw (runs_visit at t w k q) at h));
        }
    by false q rest = exact_stop (suc k) (suc j) at t w q

  abbrev pub begun : ℕ → ℕ → ℕ → RunResult
  begun k lt lw = runs k n o room start_of_run (replicate lt 0) (added_rows (replicate lw 0) o n (record { 0 = 0 }))

  enumerated_runs : (n ≡ 0 → ⊥) → (lt lw : ℕ) → enumerated n o room lt lw ≡ begun 18446744073709551615 lt lw
  unfolding enumerated
  enumerated_runs d lt lw = simp (ne_eqb _ _ d)

  -- A whole run that is done with N elements has visited N · n places.
  module _ (lt lw : ℕ) {N : ℕ} (some : n ≡ 0 → ⊥) (q : (enumerated n o room lt lw).answer ≡ ran.Done N) where
    all_places : (j : ℕ) → Exact 18446744073709551615 j start_of_run (replicate lt 0) (added_rows (replicate lw 0) o n (record { 0 = 0 }))
    all_places j =
        let z = ap (λ (x : RunResult). x.answer) (sym (enumerated_runs some lt lw)) ∙ q in
        exact 18446744073709551615 j start_of_run _ _ (omega arith) (subst IsDone (sym z) tt)

    count_is : done_of (begun 18446744073709551615 lt lw).answer ≡ N
    count_is = ap (λ (x : RunResult). done_of x.answer) (sym (enumerated_runs some lt lw)) ∙ ap done_of q

    pub places_enough : (j : ℕ) → N * n ≤ j → begun j lt lw ≡ enumerated n o room lt lw
    places_enough j h = (all_places j).enough (rw count_is (omega arith)) ∙ sym (enumerated_runs some lt lw)

    pub places_short : (j : ℕ) → j < N * n → IsPaused (begun j lt lw).answer
    places_short j h = (all_places j).short (rw count_is (omega arith))
