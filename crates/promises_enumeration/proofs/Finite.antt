-- Where the orders present a finite group, whatever its size, the call is refused exactly as the reading of the group's table is: the same number at the same place.
use Prim.Native.Nat.{ℕ, ◌≤◌}
use mathlib.Core.Path.{◌≡◌, sym, ap, ◌∙◌, subst}
use mathlib.Core.Logic.{◌↔◌, ◌⊎◌, inl, inr}
use mathlib.Core.Bool.{true}
use mathlib.Core.List.{List}
use native.Mathlib.Omega.{arith}
use lib.ListN.{length}
use Rattle.egg.specs.declared.Refusal.{Refusal}
use Rattle.egg.specs.Answers.{fine}
use Rattle.std.specs.Prelude.{Err}
use Rattle.egg.specs.Pairs.{orders_right}
use Rattle.build_lending.specs.Lending.{table_need, work_need, lent_right, making}
use Rattle.build_reading.specs.Reading.{placed}
use Rattle.enumeration_run.specs.Run.{enumerated}
use Rattle.enumeration_run.specs.declared.inner.Ran.TheVariants as ran
use Rattle.enumeration.specs.Calls.{enumerates}
use Rattle.enumeration.proofs.Calls.{limits}
use Rattle.theory.specs.Presentation.{order_of}
use Rattle.build_reading_laws.specs.Read.{ReadingRefused}
use Rattle.build_reading_laws.proofs.Readings.{refuses_refused}
use Rattle.enumeration_run.specs.Limits.{Limits}
use Rattle.enumeration_run_laws.proofs.Going.{done_finished}
use Rattle.theory_coxeter.specs.Tables.{PresentedTable}
use Rattle.enumeration_complete_laws.specs.Ends.{TableWords}
use Rattle.enumeration_complete_laws.proofs.Running.{enumerated_ends, readable}
use Rattle.promises.proofs.Stops.{enumeration_stops}
use Rattle.promises_enumeration.proofs.Orders.{right_exact}
use Rattle.promises_enumeration.proofs.Complete.{enumeration_stopped}

-- A reading is refused in one way.
refuses_once : {n room lt lw : ℕ} {o : List ℕ} → Limits n o room lt lw → {step : ℕ → ℕ → ℕ} {r s : Refusal} → ReadingRefused step n room r → ReadingRefused step n room s → r ≡ s
refuses_once {n} {room} {lt} L {step} {r} {s} A B =
    let a = refuses_refused step n room lt L.few L.some L.limit L.table_room A in
    let b = refuses_refused step n room lt L.few L.some L.limit L.table_room B in
    one (sym a.1 ∙ b.1) where
      one : {t t' : List ℕ} → placed (Err r) t ≡ placed (Err s) t' → r ≡ s
      one e = cc

one_ran : {r s : Refusal} → ran.Refused r ≡ ran.Refused s → r ≡ s
one_ran e = cc

module _ (table : List ℕ) (start : ℕ) (work orders : List ℕ) (n room : ℕ) (hn : n ≤ 8) (right : orders_right orders n ≡ fine)
    (lent : lent_right (length table) start (length work) room n ≡ true) {N : ℕ} {step : ℕ → ℕ → ℕ} (P : PresentedTable n N (order_of orders) step) where
  L : Limits n orders room (table_need n room) (work_need n room)
  L = limits table start work orders n room hn right lent

  -- The run is refused exactly as the reading is.
  pub run_refused : (r : Refusal) → ((enumerated n orders room (table_need n room) (work_need n room)).answer ≡ ran.Refused r) ↔ ReadingRefused step n room r
  run_refused r = (λ q. there q (enumerated_ends orders L P (right_exact orders n right)), λ F. back F (enumerated_ends orders L P (right_exact orders n right))) where
    Ends : Type 0
    Ends = (((enumerated n orders room (table_need n room) (work_need n room)).answer ≡ ran.Done N)
        × TableWords n step N (enumerated n orders room (table_need n room) (work_need n room)).table)
        ⊎ ((s : Refusal) × ((enumerated n orders room (table_need n room) (work_need n room)).answer ≡ ran.Refused s) × ReadingRefused step n room s)

    there : (enumerated n orders room (table_need n room) (work_need n room)).answer ≡ ran.Refused r → Ends → ReadingRefused step n room r
    there q (inl d) = absurd (not_both (sym d.0 ∙ q)) where
      not_both : ran.Done N ≡ ran.Refused r → ⊥
      not_both e = let z : ◌≡◌ {A = ℕ} 0 1 = cc in omega arith
    there q (inr R) = subst (ReadingRefused step n room) (one_ran (sym R.1 ∙ q)) R.2

    back : ReadingRefused step n room r → Ends → (enumerated n orders room (table_need n room) (work_need n room)).answer ≡ ran.Refused r
    back F (inl d) =
        let D = done_finished L d.0 in
        absurd (readable orders L P (right_exact orders n right) D.run.fits (λ e he. omega (arith, d.1.letters e he, D.short e he)) r F)
    back F (inr R) = R.1 ∙ ap ran.Refused (refuses_once L R.2 F)

  pub finite_refused : (r : Refusal) → ((t : List ℕ) × (w : List ℕ)
      × (enumerates table start work orders n room ≡ making (Err r) t w)) ↔ ReadingRefused step n room r
  finite_refused r = (
    λ a. (run_refused r).0 ((enumeration_stops table start work orders n room hn right lent r).0
        (a.0, a.1, a.2, enumeration_stopped table start work orders n room hn right lent a.2)),
    λ F. let a = (enumeration_stops table start work orders n room hn right lent r).1 ((run_refused r).1 F) in (a.0, a.1, a.2),
  )
