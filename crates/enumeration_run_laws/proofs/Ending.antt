-- A whole run is never paused: it visits at most room · n places, and its allowance is larger.
use Prim.Native.Nat.{ℕ, zero, suc, ◌+◌, ◌*◌, ◌<◌, ◌≤◌}
use mathlib.Core.Path.{◌≡◌, refl, subst}
use mathlib.Core.Bool.{Bool, true, false}
use mathlib.Core.List.{List}
use native.Mathlib.Nat.{mul-le-mul}
use native.Mathlib.Omega.{arith}
use borrow.Author.Tests.{ltb-true, eqb-false}
use lib.ListN.{replicate}
use lib.Dec.{eqb, ltb}
use Rattle.theory.specs.Presentation.{order_of}
use Rattle.egg.specs.Answers.{Counted}
use Rattle.std.specs.Prelude.{Ok, Err}
use Rattle.egg.specs.Table.{pick}
use Rattle.enumeration_rows.specs.Rows.{added_rows}
use Rattle.enumeration_run.specs.Run.{Visit, visits, advanced, RunResult, outcome, on_visit, after, runs, start_of_run, enumerated}
use Rattle.enumeration_run.specs.declared.inner.Run.{Run}
use Rattle.enumeration_run.specs.declared.inner.Ran.{Ran}
use Rattle.enumeration_run.specs.declared.inner.Ran.TheVariants as ran
use Rattle.enumeration_run.specs.Limits.{Limits}
use Rattle.enumeration_run_laws.specs.Invariant.{RunOk}
use Rattle.egg.proofs.Cells.{inside}
use Rattle.enumeration_run_laws.proofs.Visiting.{place, next}
use Rattle.enumeration_run_laws.proofs.Running.{Counts, visits_ok, first_ok}

abbrev Ended : Ran → Type 0
Ended (ran.Done c) = Unit {0}
Ended (ran.Paused at) = ⊥
Ended (ran.Refused r) = Unit {0}

module _ {n : ℕ} {o : List ℕ} {room lt lw : ℕ} (L : Limits n o room lt lw) where
  runs_end : (k : ℕ) (at : Run) {t w : List ℕ} → at.generator < n → RunOk n (order_of o) room lt lw at.count t w → room * n ≤ k + place n at
      → Ended (runs k n o room at t w).answer
  unfolding runs
  runs_end zero at {t} {w} hg I h = by (ltb at.element at.count) refl where
    by : (b : Bool) → ltb at.element at.count ≡ b → Ended (pick {A = RunResult} b (outcome (ran.Paused at) t w) (outcome (ran.Done at.count) t w)).answer
    by true q = let e : at.element < room = omega (arith, ltb-true at.element at.count q, I.fits) in omega (arith, inside e hg)
    by false q = tt
  runs_end (suc k) at {t} {w} hg I h = by (ltb at.element at.count) refl
      (λ c t₁ w₁ K. let f = next n at c hg in
      runs_end k (advanced n at c) f.0 (rw f.1 K) (omega (arith, f.2))) where
        Rest : Type 1
        Rest = (c : ℕ) (t₁ w₁ : List ℕ) → RunOk n (order_of o) room lt lw c t₁ w₁ → Ended (runs k n o room (advanced n at c) t₁ w₁).answer

        go : Rest → (a : Counted) (t₁ w₁ : List ℕ) → Counts L a t₁ w₁
            → Ended (on_visit {A = RunResult} a t₁ w₁ (λ c t₂ w₂. runs k n o room (advanced n at c) t₂ w₂) (λ why t₂ w₂. outcome (ran.Refused why) t₂ w₂)).answer
        go rest (Ok c) t₁ w₁ K = rest c t₁ w₁ K
        go rest (Err r) t₁ w₁ K = tt

        here : Visit
        here = visits n o room at.count (record { 0 = at.element }) (record { 0 = at.generator }) t w

        by : (b : Bool) → ltb at.element at.count ≡ b → Rest
            → Ended (pick {A = RunResult} b (after here (λ c t₁ w₁. runs k n o room (advanced n at c) t₁ w₁) (λ why t₁ w₁. outcome (ran.Refused why) t₁ w₁)) (outcome (ran.Done at.count) t w)).answer
        by true q rest = go rest here.answer here.table here.work
            (visits_ok L I (record { 0 = at.element }) (record { 0 = at.generator }) (ltb-true _ _ q) hg)
        by false q rest = tt

  enumerated_ends : Ended (enumerated n o room lt lw).answer
  unfolding enumerated
  enumerated_ends = by (eqb n 0) refl where
    by : (b : Bool) → eqb n 0 ≡ b
        → Ended (pick {A = RunResult} b (outcome (ran.Done 1) (replicate lt 0) (added_rows (replicate lw 0) o n (record { 0 = 0 })))
        (runs 18446744073709551615 n o room start_of_run (replicate lt 0) (added_rows (replicate lw 0) o n (record { 0 = 0 })))).answer
    by true q = tt
    by false q = let d : n ≡ 0 → ⊥ = eqb-false _ _ q in
        runs_end 18446744073709551615 start_of_run (omega arith) (first_ok L) (omega (arith, mul-le-mul L.limit L.few))

  pub never_paused : {at : Run} → (enumerated n o room lt lw).answer ≡ ran.Paused at → ⊥
  never_paused q = subst Ended q enumerated_ends
