-- Where the run by closed loops ends in a table that passes the checks, and 13 at the identity, 000's run ends in the same table, and so in the same build.
use Prim.Native.Nat.{ℕ, ◌≤◌}
use mathlib.Core.Path.{◌≡◌, refl, sym, ap, ◌∙◌}
use mathlib.Core.Bool.{Bool, true, false}
use mathlib.Core.List.{List}
use native.Mathlib.Omega.{arith}
use borrow.Author.Tests.{eqb-false}
use lib.Dec.{eqb}
use lib.ListN.{length, replicate, length-replicate}
use Rattle.egg.specs.Answers.{fine}
use Rattle.std.specs.Prelude.{Ok}
use Rattle.egg.specs.Table.{pick}
use Rattle.build_lending.specs.Finish.{built, finished}
use Rattle.factor_relations.specs.Relations.{relations_row}
use Rattle.enumeration_run.specs.declared.inner.Ran.TheVariants as ran
use Rattle.enumeration_run.specs.Run.{start_of_run, enumerated}
use Rattle.enumeration_run.specs.Limits.{Limits}
use Rattle.enumeration_run_laws.specs.Paused.{done_of}
use Rattle.enumeration_run_laws.proofs.Derivation.{work_long}
use Rattle.build_laws.proofs.AnyWork.{any_work}
use Rattle.enumeration_quick_run.specs.Sweeps.{Sweep, sweep, sweep_from, swiftly}
use Rattle.enumeration_quick_laws.proofs.Sweeping.{sweep_two_way}
use Rattle.enumeration_quick_laws.proofs.Lockstep.{blank_two_way, coincides}
use Rattle.enumeration_quick_laws.proofs.Accepting.{accepted_looped}

-- A quick run that is done has some elements, no more than there is room for, in a table as long as its stretch.
swiftly_fits : {n : ℕ} {o : List ℕ} {room lt lw : ℕ} → Limits n o room lt lw → {N : ℕ} {F : List ℕ} → swiftly n o room lt ≡ sweep (ran.Done N) F
    → (1 ≤ N) × (N ≤ room) × (length F ≡ lt)
unfolding swiftly
swiftly_fits {n} {o} {room} {lt} L {N} {F} q = by (eqb n 0) refl q where
  by : (b : Bool) → eqb n 0 ≡ b
      → pick b (sweep (ran.Done 1) (replicate lt 0)) (sweep_from 18446744073709551615 n o room start_of_run (replicate lt 0)) ≡ sweep (ran.Done N) F
      → (1 ≤ N) × (N ≤ room) × (length F ≡ lt)
  by true e h =
      let one : 1 ≡ N = ap (λ (s : Sweep). done_of s.answer) h in
      (omega arith, omega (arith, L.some), sym (ap (λ (s : Sweep). length s.table) h) ∙ length-replicate lt 0)
  by false e h =
      let some = eqb-false n 0 e in
      let (two_way, grows, within) = sweep_two_way o L.limit L.table_room 18446744073709551615 start_of_run (omega arith) L.some (blank_two_way n lt) h in
      (grows.more, within, two_way.size)

pub swift : {n : ℕ} {o : List ℕ} {room lt lw : ℕ} → Limits n o room lt lw → {N : ℕ} (F : List ℕ) → swiftly n o room lt ≡ sweep (ran.Done N) F
    → (w : List ℕ) → length w ≡ lw → {M : ℕ} {t w' : List ℕ} → finished (Ok N) n F w ≡ built (Ok M) t w' → relations_row t n M o 0 ≡ fine
    → ((enumerated n o room lt lw).answer ≡ ran.Done N)
    × (finished (Ok N) n (enumerated n o room lt lw).table (enumerated n o room lt lw).work ≡ built (Ok M) t w')
swift {n} {o} {room} {lt} {lw} L {N} F q w long checked identity =
    let (some, within, whole) = swiftly_fits L q in
    let A = accepted_looped L some within F whole w checked identity in
    let C = coincides L F A.0 A.1 q in
    (C.0, rw C.1 (any_work (Ok N) n F (enumerated n o room lt lw).work w (work_long L C.0 ∙ sym long) ∙ checked))
