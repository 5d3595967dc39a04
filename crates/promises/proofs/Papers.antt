-- Acceptance on paper, with no premise: the number is 0 exactly when the arguments are right and the table, or the group of the orders, is what is accepted.
use Prim.Native.Nat.{ℕ}
use mathlib.Core.Path.{◌≡◌, refl, ap}
use mathlib.Core.Logic.{◌↔◌}
use mathlib.Core.Bool.{false}
use mathlib.Core.List.{List, ◌∷◌}
use Rattle.egg.specs.declared.Refusal.{Refusal}
use Rattle.egg.specs.declared.Factor.{Factor}
use Rattle.std.specs.Prelude.{Ok, Err}
use Rattle.build_lending.specs.Lending.{table_need, work_need, Making, making}
use Rattle.factor.specs.Composed.{composed}
use Rattle.build_reading.specs.Reading.{composed_at}
use Rattle.enumeration_run.specs.Run.{enumerated}
use Rattle.enumeration_run.specs.declared.inner.Ran.TheVariants as ran
use Rattle.enumeration.specs.Calls.{enumerates}
use Rattle.theory.specs.Presentation.{order_of}
use Rattle.enumeration_run_laws.specs.Recorded.{words}
use Rattle.build_checks_laws.specs.Numbers.{member, RefusalIn}
use Rattle.factor_laws.specs.Papers.{value_paper}
use Rattle.factor_laws.proofs.Papers.{paper_fine}
use Rattle.egg.proofs.Scans.{refused_fine}
use Rattle.promises.specs.Composed.{RowsRight, Given}
use Rattle.build_laws.specs.Taken.{Taken}
use Rattle.promises.specs.Enumerated.{EnumerationRight, Enumerated}
use Rattle.promises.specs.Leaves.{composed_numbers, enumeration_numbers}
use Rattle.promises.specs.NoneTwice.{NoneTwice}
use Rattle.promises.specs.Papers.{made_paper}
use Rattle.promises.proofs.Composed as rows-call
use Rattle.promises.proofs.Enumerated as orders-call
use Rattle.promises.proofs.Never.{composed_number, enumeration_number}
use Rattle.promises.proofs.NoneTwice.{enumeration_exactly}

-- A call none of whose refusals has the number 0, and whose paper has it, is accepted.
pub made_fine : (l : List ℕ) → member 0 l ≡ false → (m : Making)
    → ((r : Refusal) (t w : List ℕ) → m ≡ making (Err r) t w → RefusalIn l r)
    → made_paper m ≡ value_paper 0 → (f : Factor) × (t : List ℕ) × (w : List ℕ) × (m ≡ making (Ok f) t w)
made_fine l none (making (Ok f) t w) numbers q = (f, t, w, refl)
made_fine l none (making (Err r) t w) numbers q =
    absurd (refused_fine (paper_fine l none (Err r) (record { of = λ s h. let e : r ≡ s = cc in numbers s t w (ap (λ (x : Refusal). making (Err x) t w) e) }) q))

module _ (table : List ℕ) (start : ℕ) (work rows : List ℕ) (n room : ℕ) where
  -- Where the paper's number is 0, the call gives all that an accepted call gives.
  pub composed_paper_given : made_paper (composed table start work rows n room) ≡ value_paper 0
      → (f : Factor) × (t : List ℕ) × (w : List ℕ) × (composed table start work rows n room ≡ making (Ok f) t w)
      × Given table start work rows n room f t w
  composed_paper_given q =
      let (f, t, w, h) = made_fine (1 ∷ 4 ∷ composed_numbers) refl (composed table start work rows n room) (composed_number table start work rows n room) q in
      (f, t, w, h, rows-call.composed_given table start work rows n room f t w h)

  -- "A table .. is accepted exactly when some group has it as its right steps under the numbering rule", the arguments being right.
  pub composed_paper : made_paper (composed table start work rows n room) ≡ value_paper 0
      ↔ RowsRight table start work rows n room × ((N : ℕ) × Taken (composed_at rows n) n room N)
  composed_paper = (
    λ q.
        let (f, t, w, h) = made_fine (1 ∷ 4 ∷ composed_numbers) refl (composed table start work rows n room) (composed_number table start work rows n room) q in
        let R = rows-call.begun table start work rows n room f t w h in
        (R, (rows-call.composed_exactly table start work rows n room R.generators R.lent R.listed).0 (f, t, w, h)),
    λ a.
        let R = a.0 in
        let (f, t, w, h) = (rows-call.composed_exactly table start work rows n room R.generators R.lent R.listed).1 a.1 in
        ap made_paper h,
  )

module _ (table : List ℕ) (start : ℕ) (work orders : List ℕ) (n room : ℕ) where
  pub enumeration_paper_given : made_paper (enumerates table start work orders n room) ≡ value_paper 0
      → (f : Factor) × (t : List ℕ) × (w : List ℕ) × (enumerates table start work orders n room ≡ making (Ok f) t w)
      × Enumerated table start work orders n room f t w
  enumeration_paper_given q =
      let (f, t, w, h) = made_fine (1 ∷ 2 ∷ 3 ∷ 4 ∷ enumeration_numbers) refl (enumerates table start work orders n room) (enumeration_number table start work orders n room) q in
      (f, t, w, h, orders-call.enumeration_accepted table start work orders n room f t w h)

  -- Pair orders are accepted exactly when, with right arguments, the run is done and no two of its words and no two generators are equal under the relations.
  pub enumeration_paper : made_paper (enumerates table start work orders n room) ≡ value_paper 0
      ↔ EnumerationRight table start work orders n room × ((N : ℕ) × ((enumerated n orders room (table_need n room) (work_need n room)).answer ≡ ran.Done N)
      × NoneTwice n N (order_of orders) (words n (enumerated n orders room (table_need n room) (work_need n room)).table))
  enumeration_paper = (
    λ q.
        let (f, t, w, h) = made_fine (1 ∷ 2 ∷ 3 ∷ 4 ∷ enumeration_numbers) refl (enumerates table start work orders n room) (enumeration_number table start work orders n room) q in
        let R = orders-call.begun table start work orders n room f t w h in
        (R, (enumeration_exactly table start work orders n room R.generators R.right R.lent).0 (f, t, w, h)),
    λ a.
        let R = a.0 in
        let (f, t, w, h) = (enumeration_exactly table start work orders n room R.generators R.right R.lent).1 a.1 in
        ap made_paper h,
  )
