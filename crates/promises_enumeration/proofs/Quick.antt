-- The run by closed loops, which the code makes first, has the answer of 000's run wherever the orders present a finite group; where that fits it leaves the same
-- table, which passes 8 to 13: so such orders are always accepted the quick way.
use Prim.Native.Nat.{ℕ, ◌≤◌}
use mathlib.Core.Path.{◌≡◌, sym, ap, ◌∙◌, subst}
use mathlib.Core.Logic.{◌⊎◌, inl, inr}
use mathlib.Core.Bool.{true}
use mathlib.Core.List.{List}
use lib.ListN.{length}
use Rattle.egg.specs.declared.Refusal.{Refusal}
use Rattle.egg.specs.Answers.{Counted, fine}
use Rattle.std.specs.Prelude.{Ok}
use Rattle.egg.specs.Pairs.{orders_right}
use Rattle.build_lending.specs.Finish.{built, finished}
use Rattle.build_lending.specs.Lending.{table_need, work_need, lent_right}
use Rattle.factor_relations.specs.Relations.{relations_row}
use Rattle.enumeration_run.specs.Run.{RunResult, enumerated}
use Rattle.enumeration_run.specs.declared.inner.Ran.{Ran}
use Rattle.enumeration_run.specs.declared.inner.Ran.TheVariants as ran
use Rattle.enumeration_quick_run.specs.Sweeps.{Sweep, sweep, swiftly}
use Rattle.enumeration.specs.Calls.{ran_count, related, enumerated_in}
use Rattle.enumeration.proofs.Calls.{limits, by_relations}
use Rattle.theory.specs.Presentation.{order_of}
use Rattle.build_reading_laws.specs.Read.{ReadingRefused}
use Rattle.enumeration_run.specs.Limits.{Limits}
use Rattle.build_laws.proofs.Settled.{by_count}
use Rattle.build_laws.proofs.AnyWork.{any_work}
use Rattle.enumeration_run_laws.proofs.Derivation.{work_long}
use Rattle.enumeration_quick_laws.proofs.Lockstep.{coincides}
use Rattle.theory_coxeter.specs.Tables.{PresentedTable}
use Rattle.enumeration_complete_laws.proofs.Running.{enumerated_done, readable}
use Rattle.enumeration_complete_laws.specs.Ends.{WholeTable}
use Rattle.enumeration_complete_laws.proofs.QuickRunning.{swiftly_ends, whole_looped, whole_parents}
use Rattle.build_laws.proofs.Lent.{by_build}
use Rattle.enumeration.proofs.Handle.{enumerates_is_build}
use Rattle.promises_enumeration.specs.Presented.{FittingTable}
use Rattle.promises_enumeration.proofs.Orders.{right_exact}
use Rattle.promises_enumeration.proofs.Accepting.{fitting_accepted}
use Rattle.promises_enumeration.proofs.Finite.{run_refused}

module _ (table : List ℕ) (start : ℕ) (work orders : List ℕ) (n room : ℕ) (hn : n ≤ 8) (right : orders_right orders n ≡ fine)
    (lent : lent_right (length table) start (length work) room n ≡ true) where
  L : Limits n orders room (table_need n room) (work_need n room)
  L = limits table start work orders n room hn right lent

  abbrev quick : Sweep
  quick = swiftly n orders room (table_need n room)

  abbrev slow : RunResult
  slow = enumerated n orders room (table_need n room) (work_need n room)

  -- Both runs answer the same.
  pub quick_answers : {N : ℕ} {step : ℕ → ℕ → ℕ} → PresentedTable n N (order_of orders) step
      → (swiftly n orders room (table_need n room)).answer ≡ (enumerated n orders room (table_need n room) (work_need n room)).answer
  quick_answers {N} {step} P = by (swiftly_ends orders L P (right_exact orders n right)) where
    by : ((quick.answer ≡ ran.Done N) × WholeTable n N step room quick.table) ⊎ ((r : Refusal) × (quick.answer ≡ ran.Refused r) × ReadingRefused step n room r)
        → quick.answer ≡ slow.answer
    by (inl (q, W)) = q ∙ sym (enumerated_done orders L P (right_exact orders n right) W.within_room W.short).0
    by (inr (r, q, F)) = q ∙ sym ((run_refused table start work orders n room hn right lent P r).1 F)

  -- Where the group fits, the quick run leaves the table of 000's.
  pub quick_table : (F : FittingTable n (order_of orders) room)
      → swiftly n orders room (table_need n room) ≡ sweep (ran.Done F.N) (enumerated n orders room (table_need n room) (work_need n room)).table
  quick_table F = by (swiftly_ends orders L F.presented (right_exact orders n right)) where
    by : ((quick.answer ≡ ran.Done F.N) × WholeTable n F.N F.step room quick.table)
        ⊎ ((r : Refusal) × (quick.answer ≡ ran.Refused r) × ReadingRefused F.step n room r) → quick ≡ sweep (ran.Done F.N) slow.table
    by (inl (q, W)) =
        let p : quick ≡ sweep (ran.Done F.N) quick.table = ap (λ (a : Ran). sweep a quick.table) q in
        let c = coincides L quick.table (whole_looped orders L F.presented W) (whole_parents orders L F.presented W) p in
        p ∙ ap (sweep (ran.Done F.N)) (sym c.1)
    by (inr (r, q, S)) = absurd (readable orders L F.presented (right_exact orders n right) F.within_room F.short r S)

  -- And that table passes the checks and the relations, in the work that the other run leaves.
  passes_beside : (F : FittingTable n (order_of orders) room) → (t : List ℕ) × (w : List ℕ)
      × (finished (Ok F.N) n (swiftly n orders room (table_need n room)).table (enumerated n orders room (table_need n room) (work_need n room)).work ≡ built (Ok F.N) t w)
      × (relations_row t n F.N orders 0 ≡ fine)
  unfolding enumerated_in
  passes_beside F =
      let a = fitting_accepted table start work orders n room hn right lent F in
      let b = by_build table start work n room (enumerated_in (table_need n room) (work_need n room) orders n room)
      (sym (enumerates_is_build table start work orders n room hn right lent) ∙ a.3) in
      let d = (enumerated_done orders L F.presented (right_exact orders n right) F.within_room F.short).0 in
      let same : quick.table ≡ slow.table = ap (λ (x : Sweep). x.table) (quick_table F) in
      let e : related n orders (finished (Ok F.N) n quick.table slow.work) ≡ built (Ok b.0) b.1 b.2 =
      ap (λ (x : List ℕ). related n orders (finished (Ok F.N) n x slow.work)) same
      ∙ ap (λ (x : Ran). related n orders (finished (ran_count x) n slow.table slow.work)) (sym d) ∙ b.3.0 in
      let c = by_relations n orders (finished (Ok F.N) n quick.table slow.work) e in
      let k = by_count (Ok F.N) n quick.table slow.work c.0 in
      let one : b.0 ≡ F.N = sym (counts k.0) in (
        b.1,
        b.2,
        subst (λ (M : ℕ). finished (Ok F.N) n quick.table slow.work ≡ built (Ok M) b.1 b.2) one c.0,
        subst (λ (M : ℕ). relations_row b.1 n M orders 0 ≡ fine) one c.1,
      ) where
        counts : {a b : ℕ} → ◌≡◌ {A = Counted} (Ok a) (Ok b) → a ≡ b
        counts e = cc

  -- And that table passes the checks and the relations, whatever stands in the work.
  pub quick_passes : (F : FittingTable n (order_of orders) room) (v : List ℕ) → length v ≡ work_need n room → (t : List ℕ) × (w : List ℕ)
      × (finished (Ok F.N) n (swiftly n orders room (table_need n room)).table v ≡ built (Ok F.N) t w)
      × (relations_row t n F.N orders 0 ≡ fine)
  quick_passes F v long =
      let (t, w, f, r) = passes_beside F in
      let d = (enumerated_done orders L F.presented (right_exact orders n right) F.within_room F.short).0 in
      (t, w, any_work (Ok F.N) n quick.table v slow.work (long ∙ sym (work_long L d)) ∙ f, r)
