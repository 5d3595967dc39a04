-- Two cases by computing, with `swift` applied to them: the run by closed loops is done with every element of the group, its table is that of 000's run and passes
-- the checks and the relations, and with one room less both runs are refused alike.
use Prim.Native.Nat.{ℕ, zero, suc, ◌<◌, ◌≤◌}
use mathlib.Core.Path.{◌≡◌, refl}
use mathlib.Core.List.{List, [], ◌∷◌}
use native.Mathlib.Omega.{arith}
use lib.ListN.{get_or, replicate, length-replicate}
use Rattle.egg.specs.declared.Refusal.{Refusal}
use Rattle.std.specs.Prelude.{Ok}
use Rattle.egg.specs.Table.{put_at, start_of}
use Rattle.egg.specs.Scan.{scan}
use Rattle.egg.specs.Pairs.{pair_code, pair_count}
use Rattle.egg.specs.Factor.{read_step}
use Rattle.build_reading.specs.Build.{set_step, set_word, adds}
use Rattle.enumeration_rows.specs.Rows as rows
use Rattle.enumeration_fill.specs.Fill as legs
use Rattle.enumeration_fill.specs.Walk.{walk_from}
use Rattle.enumeration_wake.specs.Waking as carrying
use Rattle.enumeration_facts.specs.Facts as facts
use Rattle.build_checks.specs.Checks as checks
use Rattle.build_checks_inverses.specs.Inverses as inverses
use Rattle.build_checks_group.specs.Lefts as lefts
use Rattle.build_word_cells.specs.Hops.{hop_from, with_hops}
use Rattle.build_lending.specs.Finish.{built, finished}
use Rattle.factor_relations.specs.Relations.{turned, doubled_row, pairs_row}
use Rattle.enumeration_run.specs.declared.inner.Ran.TheVariants as ran
use Rattle.enumeration_run.specs.Run.{enumerated, runs, visits, discovered, advanced}
use Rattle.enumeration_run.specs.Limits.{Limits}
use Rattle.enumeration_quick_loops.specs.Loops.{order_for, loop_by, loop_from}
use Rattle.enumeration_quick_run.specs.Sweeps.{settles, sweeps, sweep_from, swiftly}
use Rattle.enumeration_quick_laws.specs.Sample.{checked, Case, five, triangle, prism}
use Rattle.enumeration_quick_laws.proofs.Swift.{swift}

-- `swift` at such a case: 000's run is done with N elements as well, and its build leaves what the quick run's leaves.
accepted : {n : ℕ} {o : List ℕ} {N lt lw : ℕ} {F : List ℕ} {why : Refusal} → Limits n o N lt lw → Case n o N lt lw F why
    → ((enumerated n o N lt lw).answer ≡ ran.Done N)
    × (finished (Ok N) n (enumerated n o N lt lw).table (enumerated n o N lt lw).work ≡ built (Ok N) (checked n N lw F) (replicate lw 0))
accepted {lw = lw} {F = F} L c = swift L F c.done (replicate lw 0) (length-replicate lw 0) c.passes c.relates

pub triangle_case : Case 2 (3 ∷ []) 6 48 192 triangle (five 3 0)
unfolding swiftly sweep_from sweeps settles loop_from loop_by order_for walk_from enumerated runs visits discovered advanced put_at start_of scan pair_code pair_count read_step set_step set_word adds rows.work_width rows.place_at rows.rows_at rows.stored_row rows.write_row legs.back_from legs.forward_from legs.filled rows.appended rows.waits rows.added_row rows.add_rows_from carrying.learns carrying.woken carrying.wakes carrying.wakes_all facts.emptied facts.updated facts.settle_from checks.missing_row checks.missing checks.check8 checks.range_row checks.links_of checks.ranges checks.wrong_row checks.wrong checks.check_table checks.wiped checks.arrive_row checks.arrivals checks.counts_right inverses.invert_from inverses.fill_inverses inverses.inverses_right lefts.identity_row lefts.columns_row lefts.spelled_row lefts.spelled lefts.check_steps lefts.fill_left lefts.goes_row lefts.all_go lefts.lefts checks.check_rest checks.check_group hop_from with_hops finished turned doubled_row pairs_row
triangle_case = record {
  done = refl;
  same = refl;
  passes = refl;
  relates = refl;
  short = refl;
  short_too = refl;
}

triangle_limits : Limits 2 (3 ∷ []) 6 48 192
triangle_limits = record {
  few = omega arith;
  full = refl;
  orders = λ k h. first k h;
  some = omega arith;
  limit = omega arith;
  table_room = omega arith;
  work_room = omega arith;
} where
  first : (k : ℕ) → k < 1 → (1 ≤ get_or (3 ∷ []) k 0) × (get_or (3 ∷ []) k 0 < 32768)
  first zero h = omega arith
  first (suc k) h = absurd (omega arith)

pub triangle_swift : ((enumerated 2 (3 ∷ []) 6 48 192).answer ≡ ran.Done 6)
    × (finished (Ok 6) 2 (enumerated 2 (3 ∷ []) 6 48 192).table (enumerated 2 (3 ∷ []) 6 48 192).work
    ≡ built (Ok 6) (checked 2 6 192 triangle) (replicate 192 0))
triangle_swift = accepted triangle_limits triangle_case

pub prism_case : Case 3 (2 ∷ 2 ∷ 3 ∷ []) 12 120 792 prism (five 8 1)
unfolding swiftly sweep_from sweeps settles loop_from loop_by order_for walk_from enumerated runs visits discovered advanced put_at start_of scan pair_code pair_count read_step set_step set_word adds rows.work_width rows.place_at rows.rows_at rows.stored_row rows.write_row legs.back_from legs.forward_from legs.filled rows.appended rows.waits rows.added_row rows.add_rows_from carrying.learns carrying.woken carrying.wakes carrying.wakes_all facts.emptied facts.updated facts.settle_from checks.missing_row checks.missing checks.check8 checks.range_row checks.links_of checks.ranges checks.wrong_row checks.wrong checks.check_table checks.wiped checks.arrive_row checks.arrivals checks.counts_right inverses.invert_from inverses.fill_inverses inverses.inverses_right lefts.identity_row lefts.columns_row lefts.spelled_row lefts.spelled lefts.check_steps lefts.fill_left lefts.goes_row lefts.all_go lefts.lefts checks.check_rest checks.check_group hop_from with_hops finished turned doubled_row pairs_row
prism_case = record {
  done = refl;
  same = refl;
  passes = refl;
  relates = refl;
  short = refl;
  short_too = refl;
}

prism_limits : Limits 3 (2 ∷ 2 ∷ 3 ∷ []) 12 120 792
prism_limits = record {
  few = omega arith;
  full = refl;
  orders = λ k h. each k h;
  some = omega arith;
  limit = omega arith;
  table_room = omega arith;
  work_room = omega arith;
} where
  each : (k : ℕ) → k < 3 → (1 ≤ get_or (2 ∷ 2 ∷ 3 ∷ []) k 0) × (get_or (2 ∷ 2 ∷ 3 ∷ []) k 0 < 32768)
  each zero h = omega arith
  each (suc zero) h = omega arith
  each (suc (suc zero)) h = omega arith
  each (suc (suc (suc k))) h = absurd (omega arith)

pub prism_swift : ((enumerated 3 (2 ∷ 2 ∷ 3 ∷ []) 12 120 792).answer ≡ ran.Done 12)
    × (finished (Ok 12) 3 (enumerated 3 (2 ∷ 2 ∷ 3 ∷ []) 12 120 792).table (enumerated 3 (2 ∷ 2 ∷ 3 ∷ []) 12 120 792).work
    ≡ built (Ok 12) (checked 3 12 792 prism) (replicate 792 0))
prism_swift = accepted prism_limits prism_case
