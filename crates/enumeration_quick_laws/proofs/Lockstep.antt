-- The run by closed loops and 000's go place by place alike: where the first is done with a table in which the relations hold, the other is done with it too.
use Prim.Native.Nat.{ℕ, zero, suc, ◌+◌, ◌<◌, ◌≤◌}
use mathlib.Core.Path.{◌≡◌, refl, sym, ap, ◌∙◌, subst}
use mathlib.Core.Bool.{Bool, true, false}
use mathlib.Core.List.{List}
use native.Mathlib.Omega.{arith}
use borrow.Author.Tests.{ltb-true, ltb-false, eqb-false}
use lib.ListN.{replicate, length-replicate}
use lib.Dec.{eqb, ltb}
use Rattle.theory.specs.Words.{Parents}
use Rattle.theory.specs.Appearance.{row}
use Rattle.theory.proofs.Places.{nothing_ahead}
use Rattle.egg.specs.Answers.{Counted}
use Rattle.std.specs.Prelude.{Ok, Err}
use Rattle.egg.specs.Table.{pick, start_of, step_of, parent_of, last_of}
use Rattle.enumeration_rows.specs.Rows.{added_rows}
use Rattle.enumeration_run.specs.Run.{Visit, visits, advanced, RunResult, outcome, after, runs, start_of_run, enumerated}
use Rattle.enumeration_run.specs.declared.inner.Run.{Run}
use Rattle.enumeration_run.specs.declared.inner.Ran.TheVariants as ran
use Rattle.enumeration_run_laws.specs.Invariant.{StepKnown}
use Rattle.enumeration_run.specs.Limits.{Limits}
use Rattle.enumeration_run_laws.proofs.Visiting.{next}
use Rattle.enumeration_run_laws.specs.Paused.{IsDone, done_of}
use Rattle.enumeration_run_laws.proofs.Running.{zeros}
use Rattle.enumeration_run_laws.proofs.Going.{VisitedBy, visited, goes_on, first_going}
use Rattle.enumeration_loop_laws.specs.Rings.{Looped}
use Rattle.enumeration_quick_run.specs.Sweeps.{Swept, swept, sweeps, Sweep, sweep, on_swept, sweep_from, swiftly}
use Rattle.enumeration_quick_laws.specs.Sweeping.{TwoWay, Grows}
use Rattle.enumeration_closure_laws.proofs.Beginning.{first_closed}
use Rattle.enumeration_quick_laws.proofs.Sweeping.{sweeps_two_way, sweep_two_way}
use Rattle.enumeration_quick_laws.proofs.Ahead.{before_next}
use Rattle.enumeration_quick_laws.proofs.Beside.{Beside, Abreast}
use Rattle.enumeration_quick_laws.proofs.Placing.{Came}
use Rattle.enumeration_quick_laws.proofs.Coming.{Comes, comes}
use Rattle.enumeration_quick_laws.proofs.Matching.{tables_match}

pub blank_two_way : (n lt : ℕ) → TwoWay n 1 lt (replicate lt 0)
blank_two_way n lt = record {
  back = λ e g hg. zeros lt (start_of n e + (n + g)) ∙ sym (zeros lt (start_of n e + g));
  turned = λ e g r hg q. absurd (omega (arith, zeros lt (start_of n e + g)));
  blank = λ e k he hk. zeros lt (start_of n e + k);
  size = length-replicate lt 0;
}

module _ {n : ℕ} {o : List ℕ} {room lt lw : ℕ} (L : Limits n o room lt lw) {N : ℕ} (F : List ℕ)
    (looped : Looped n N o (step_of F n)) (parents : Parents n N (step_of F n) (parent_of F n) (last_of F n)) where
  -- The other run has that end.
  abbrev Same : RunResult → Type 0
  Same x = (x.answer ≡ ran.Done N) × (x.table ≡ F)

  ends : {x g c : ℕ} {q t w : List ℕ} → c ≤ x → Abreast n o room lt lw F x g c q t w → sweep (ran.Done c) q ≡ sweep (ran.Done N) F → Same (outcome (ran.Done c) t w)
  ends {x} {g} {c} {q} {t} {w} h A p =
      let count : c ≡ N = ap (λ (s : Sweep). done_of s.answer) p in
      let same : q ≡ F = ap (λ (s : Sweep). s.table) p in
      let all : (e g : ℕ) → e < c → g < n → StepKnown n q e g = λ e g he hg. A.seen.all e g hg (row (omega arith)) in
      let B = subst (λ (c : ℕ). Beside n o lt lw F c F t w) count (subst (λ (q : List ℕ). Beside n o lt lw F c q t w) same A.beside) in
      (ap (λ (s : Sweep). s.answer) p, tables_match B (λ e g he hg. rw (← same) (all e g (omega arith) hg)))

  -- After a place that both have visited they are abreast at the next.
  module _ (at : Run) {q t w : List ℕ} (hg : at.generator < n) (A : Abreast n o room lt lw F at.element at.generator at.count q t w) (hx : at.element < at.count) where
    passes : (c : ℕ) {q' : List ℕ} (K : Came n o room lt lw F at.element at.generator at.count t w c q') → ((e h : ℕ) → h < n → StepKnown n q e h → StepKnown n q' e h)
        → let a = advanced n at c in Abreast n o room lt lw F a.element a.generator a.count q' K.table K.work
    passes c {q'} K more =
        let v = subst (VisitedBy L at.element at.generator) K.is (visited L A.going hx hg) in
        let f = next n at c hg in
        record {
          beside = rw f.1 K.beside;
          going = goes_on L at c hg v.0 v.1;
          seen = before_next (StepKnown n q') at c hg (record { all = λ y h hh a. more y h hh (A.seen.all y h hh a) }) K.here;
        }

  lock : (k : ℕ) (at : Run) {q t w : List ℕ} → at.generator < n → Abreast n o room lt lw F at.element at.generator at.count q t w
      → sweep_from k n o room at q ≡ sweep (ran.Done N) F → Same (runs k n o room at t w)
  unfolding sweep_from runs
  lock zero at {q} {t} {w} hg A p = by (ltb at.element at.count) refl p where
    by : (b : Bool) → ltb at.element at.count ≡ b → pick b (sweep (ran.Paused at) q) (sweep (ran.Done at.count) q) ≡ sweep (ran.Done N) F
        → Same (pick b (outcome (ran.Paused at) t w) (outcome (ran.Done at.count) t w))
    by true b p = absurd (subst (λ (s : Sweep). IsDone s.answer) (sym p) tt)
    by false b p = ends (ltb-false _ _ b) A p
  lock (suc k) at {q} {t} {w} hg A p = by (ltb at.element at.count) refl p (λ c q₁ t₁ w₁ A₁ p₁. lock k (advanced n at c) (next n at c hg).0 A₁ p₁) where
    Rest : Type 1
    Rest = (c : ℕ) (q₁ t₁ w₁ : List ℕ) → let a = advanced n at c in Abreast n o room lt lw F a.element a.generator a.count q₁ t₁ w₁
        → sweep_from k n o room a q₁ ≡ sweep (ran.Done N) F → Same (runs k n o room a t₁ w₁)

    quick : Swept
    quick = sweeps n o room at.count (record { 0 = at.element }) (record { 0 = at.generator }) q

    slow : Visit
    slow = visits n o room at.count (record { 0 = at.element }) (record { 0 = at.generator }) t w

    whole : TwoWay n N lt F × Grows n at.count N q F × (N ≤ room)
    whole = sweep_two_way o L.limit L.table_room (suc k) at hg A.going.run.fits A.beside.two_way p

    later : Visit → RunResult
    later v = after v (λ c t₁ w₁. runs k n o room (advanced n at c) t₁ w₁) (λ why t₁ w₁. outcome (ran.Refused why) t₁ w₁)

    carry : Rest → at.element < at.count → (c : ℕ) (q₁ : List ℕ) → Came n o room lt lw F at.element at.generator at.count t w c q₁ → Grows n at.count c q q₁
        → sweep_from k n o room (advanced n at c) q₁ ≡ sweep (ran.Done N) F → Same (later slow)
    carry rest hx c q₁ K G p =
        rw K.is (rest c q₁ K.table K.work (passes at hg A hx c K (λ e h hh k z. k (sym (G.known e h hh k) ∙ z))) p)

    go : Rest → (hx : at.element < at.count) (a : Counted) (q₁ : List ℕ) → quick ≡ swept a q₁
        → Comes F looped parents L whole.2 A.beside whole.1 A.going.run hx hg a q₁
        → on_swept a q₁ (λ c q₂. sweep_from k n o room (advanced n at c) q₂) (λ why q₂. sweep (ran.Refused why) q₂) ≡ sweep (ran.Done N) F → Same (later slow)
    go rest hx (Ok c) q₁ e come p =
        let f = sweeps_two_way o L.limit L.table_room A.going.run.fits (record { 0 = at.element }) (record { 0 = at.generator }) hx hg A.beside.two_way e in
        let y = next n at c hg in
        let two_way : TwoWay n (advanced n at c).count lt q₁ = rw y.1 f.0 in
        let z = sweep_two_way o L.limit L.table_room k (advanced n at c) y.0 (omega (arith, y.1, f.2)) two_way p in
        carry rest hx c q₁ (come f.0 (rw y.1 at z.1)) f.1 p
    go rest hx (Err r) q₁ e come p = absurd (subst (λ (s : Sweep). IsDone s.answer) (sym p) tt)

    by : (b : Bool) → ltb at.element at.count ≡ b
        → pick b (on_swept quick.answer quick.table (λ c q₂. sweep_from k n o room (advanced n at c) q₂) (λ why q₂. sweep (ran.Refused why) q₂)) (sweep (ran.Done at.count) q) ≡ sweep (ran.Done N) F
        → Rest → Same (pick b (later slow) (outcome (ran.Done at.count) t w))
    by true b p rest =
        let hx = ltb-true _ _ b in
        go rest hx quick.answer quick.table refl (comes F looped parents L whole.2 A.beside whole.1 A.going.run hx hg) p
    by false b p rest = ends (ltb-false _ _ b) A p

  first_abreast : 1 ≤ N → Abreast n o room lt lw F 0 0 1 (replicate lt 0) (replicate lt 0) (added_rows (replicate lw 0) o n (record { 0 = 0 }))
  first_abreast some = record {
    beside = record {
      two_way = blank_two_way n lt;
      closed = first_closed L looped some;
      known = λ e h hh k. k;
      rest = λ e k low high. refl;
    };
    going = first_going L;
    seen = record { all = λ y h hh a. absurd (nothing_ahead a) };
  }

  pub coincides : swiftly n o room lt ≡ sweep (ran.Done N) F → ((enumerated n o room lt lw).answer ≡ ran.Done N) × ((enumerated n o room lt lw).table ≡ F)
  unfolding swiftly enumerated
  coincides p = by (eqb n 0) refl p where
    work : List ℕ
    work = added_rows (replicate lw 0) o n (record { 0 = 0 })

    by : (b : Bool) → eqb n 0 ≡ b
        → pick b (sweep (ran.Done 1) (replicate lt 0)) (sweep_from 18446744073709551615 n o room start_of_run (replicate lt 0)) ≡ sweep (ran.Done N) F
        → Same (pick b (outcome (ran.Done 1) (replicate lt 0) work) (runs 18446744073709551615 n o room start_of_run (replicate lt 0) work))
    by true b p = (ap (λ (s : Sweep). s.answer) p, ap (λ (s : Sweep). s.table) p)
    by false b p =
        let d : n ≡ 0 → ⊥ = eqb-false _ _ b in
        let hg : 0 < n = omega arith in
        let f = sweep_two_way o L.limit L.table_room 18446744073709551615 start_of_run hg L.some (blank_two_way n lt) p in
        lock 18446744073709551615 start_of_run hg (first_abreast f.1.more) p
