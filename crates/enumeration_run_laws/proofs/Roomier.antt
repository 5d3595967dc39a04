-- "More room never changes an accepted table": a run that is done is the same with more room, in longer stretches.
use Prim.Native.Nat.{ℕ, ◌+◌, ◌-◌, ◌*◌, ◌≤◌}
use mathlib.Core.Path.{◌≡◌, refl, ap, ◌∙◌}
use mathlib.Core.Bool.{Bool, true, false}
use mathlib.Core.List.{List}
use native.Mathlib.Nat.{mul-le-mul_right}
use native.Mathlib.Omega.{arith}
use borrow.Author.Tests.{eqb-false}
use lib.ListN.{length, replicate, length-replicate}
use lib.Dec.{eqb}
use Rattle.egg.specs.Table.{pick}
use Rattle.enumeration_rows.specs.Rows.{work_width, added_rows}
use Rattle.enumeration_run.specs.Run.{RunResult, outcome, runs, start_of_run, enumerated}
use Rattle.enumeration_run.specs.declared.inner.Ran.TheVariants as ran
use Rattle.enumeration_run.specs.Limits.{Limits}
use Rattle.enumeration_run_laws.specs.Paused.{IsDone}
use Rattle.enumeration_run_laws.proofs.Running.{work_room, first_work, first_ok}
use Rattle.enumeration_run_laws.specs.Longer.{longer, longer_outcome, SameRun}
use Rattle.enumeration_run_laws.proofs.LongerStores.{longer_zeros}
use Rattle.enumeration_run_laws.proofs.LongerAdding.{added_rows_longer}
use Rattle.enumeration_run_laws.proofs.LongerRuns.{runs_longer}

module _ {n : ℕ} {o : List ℕ} {room lt lw : ℕ} (L : Limits n o room lt lw) where
  -- The rows of the identity.
  abbrev begun : ℕ → List ℕ
  begun len = added_rows (replicate len 0) o n (record { 0 = 0 })

  begun_longer : (b : ℕ) → begun (lw + b) ≡ longer b (begun lw)
  begun_longer b =
      let fits : 1 * work_width n ≤ lw = omega (arith, work_room L, mul-le-mul_right (work_width n) L.some) in
      rw (← longer_zeros b lw)
      (added_rows_longer o L.few L.full L.orders (omega arith) (record { 0 = 0 }) (omega arith) b (length o) (replicate lw 0) 0 (rw (length-replicate {A = ℕ} lw 0) fits) (omega arith)
      (first_work L))

  pub enumerated_longer : (a b : ℕ) {room' : ℕ} → room ≤ room' → IsDone (enumerated n o room lt lw).answer → enumerated n o room' (lt + a) (lw + b) ≡ longer_outcome a b (enumerated n o room lt lw)
  unfolding enumerated
  enumerated_longer a b {room'} more d = rw (← longer_zeros a lt, begun_longer b) (by (eqb n 0) refl d) where
    by : (c : Bool) → eqb n 0 ≡ c → IsDone (pick {A = RunResult} c (outcome (ran.Done 1) (replicate lt 0) (begun lw)) (runs 18446744073709551615 n o room start_of_run (replicate lt 0) (begun lw))).answer
        → pick c (outcome (ran.Done 1) (longer a (replicate lt 0)) (longer b (begun lw))) (runs 18446744073709551615 n o room' start_of_run (longer a (replicate lt 0)) (longer b (begun lw)))
        ≡ longer_outcome a b (pick c (outcome (ran.Done 1) (replicate lt 0) (begun lw)) (runs 18446744073709551615 n o room start_of_run (replicate lt 0) (begun lw)))
    by true q d = refl
    by false q d = let some : n ≡ 0 → ⊥ = eqb-false _ _ q in runs_longer L a b room' more 18446744073709551615 start_of_run (replicate lt 0) (begun lw) (omega arith) (first_ok L) d

  pub more_room : {N : ℕ} → (enumerated n o room lt lw).answer ≡ ran.Done N → {room' lt' lw' : ℕ} → room ≤ room' → lt ≤ lt' → lw ≤ lw' → SameRun n o room lt lw room' lt' lw' N
  unfolding longer
  more_room {N} done {room'} {lt'} {lw'} hr ht hw =
      let p : lt + (lt' - lt) ≡ lt' = omega arith in
      let q : lw + (lw' - lw) ≡ lw' = omega arith in
      let whole : enumerated n o room' lt' lw' ≡ longer_outcome (lt' - lt) (lw' - lw) (enumerated n o room lt lw) =
      rw (p, q) at (enumerated_longer (lt' - lt) (lw' - lw) {room' = room'} hr (rw done tt)) in
      record {
        answer = ap (λ (x : RunResult). x.answer) whole ∙ done;
        table = ap (λ (x : RunResult). x.table) whole;
        work = ap (λ (x : RunResult). x.work) whole;
      }
