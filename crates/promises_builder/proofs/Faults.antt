-- 9 to 12 of a builder in theory's words: where all is there and all is reached, it is refused exactly by what its rows have for a fault.
use Rattle.egg.specs.Refusals.{refusal_paper}
use Prim.Native.Nat.{ℕ, ◌+◌, ◌≤◌}
use mathlib.Core.Path.{◌≡◌, sym, ap, ◌∙◌}
use mathlib.Core.Logic.{◌↔◌}
use mathlib.Core.Bool.{true}
use mathlib.Core.List.{List, [], ◌∷◌}
use native.Mathlib.Nat.{le_refl}
use native.Mathlib.Omega.{arith}
use lib.ListN.{length, take}
use Rattle.egg.specs.declared.Refusal.{Refusal}
use Rattle.egg.specs.declared.Factor.{Factor}
use Rattle.egg.specs.Factor.{fits_in}
use Rattle.egg.proofs.Rooms.{some, room_enough}
use Rattle.builder.specs.declared.Builder.{Builder}
use Rattle.build_lending.specs.Lending.{table_need, work_need, within, lent_back}
use Rattle.factor.specs.Composed.{composed_in, composed}
use Rattle.build_reading.specs.Reading.{composed_at}
use Rattle.theory.specs.Numbering.{Numbered}
use Rattle.theory.proofs.Reading.{numbered_once}
use Rattle.build_checks_laws.specs.Numbers.{member}
use Rattle.build_laws.proofs.Lent.{by_refused}
use Rattle.promises.proofs.Composed.{composed_is_build, work_lent}
use Rattle.promises_refusals.specs.Faults.{Fault}
use Rattle.promises_refusals.proofs.Built.{built_fault, fault_built}
use Rattle.promises_builder.specs.Own.{own_rows, Filled}
use Rattle.promises_builder.specs.Builds.{RefusedBy}
use Rattle.promises_builder.proofs.Composed.{least, limit, lent, listed_long, build_own_rows}
use Rattle.promises_builder.proofs.Refused.{build_late}

-- A handle that fits, and a work that is long enough.
module _ (t : List ℕ) (b : Builder) (w : List ℕ) (fits : fits_in (length t) b.0 ≡ true) (enough : work_need b.0.generators b.0.room ≤ length w) where
  abbrev f : Factor
  f = b.0

  abbrev n : ℕ
  n = b.0.generators

  abbrev room : ℕ
  room = b.0.room

  abbrev rows : List ℕ
  rows = own_rows t b.0

  lo : 1 ≤ room
  lo = omega (arith, some (length t) f fits, room_enough (length t) f fits)

  is_build : composed t f.start w rows n room ≡ lent_back t f.start w n room (composed_in (table_need n room) (take (work_need n room) w) rows n room)
  is_build = composed_is_build t f.start w rows n room (least t b w fits enough) (lent t b w fits enough) (listed_long t b w fits enough)

  long : work_need n room ≤ length (take (work_need n room) w)
  long = work_lent t f.start w rows n room (least t b w fits enough) (lent t b w fits enough) (listed_long t b w fits enough)

  pub build_faults : Filled t b.0 → Numbered b.0.generators b.0.elements (composed_at (own_rows t b.0) b.0.generators) → (r : Refusal)
      → RefusedBy t b w r ↔ Fault (composed_at (own_rows t b.0) b.0.generators) b.0.generators b.0.room r
  unfolding composed_in
  build_faults F K r =
      let e = build_own_rows t b w fits enough F (λ c q. numbered_once q K) in (
        λ a.
            let z = by_refused t f.start w n room _ (sym is_build ∙ sym e ∙ a.2) in
            built_fault (composed_at rows n) n room (table_need n room) (take (work_need n room) w) (least t b w fits enough) lo (limit t b w fits enough)
            (le_refl (table_need n room)) long z.2,
        λ G.
            let z = fault_built (composed_at rows n) n room (table_need n room) (take (work_need n room) w) (least t b w fits enough) lo (limit t b w fits enough)
            (le_refl (table_need n room)) long G in (
              within t f.start (f.start + table_need n room) z.0,
              within w 0 (work_need n room) z.1,
              e ∙ is_build ∙ ap (lent_back t f.start w n room) z.2,
            ),
      )

  -- 9, 10, 11 and 12 exactly.
  pub build_late_exactly : (r : Refusal) → (RefusedBy t b w r × (member (refusal_paper r).number (9 ∷ 10 ∷ 11 ∷ 12 ∷ []) ≡ true))
      ↔ (Filled t b.0 × Numbered b.0.generators b.0.elements (composed_at (own_rows t b.0) b.0.generators)
      × Fault (composed_at (own_rows t b.0) b.0.generators) b.0.generators b.0.room r × (member (refusal_paper r).number (9 ∷ 10 ∷ 11 ∷ 12 ∷ []) ≡ true))
  build_late_exactly r = (
    λ a. let p = build_late t b w fits enough a.0 a.1 in (p.0, p.1, (build_faults p.0 p.1 r).0 a.0, a.1),
    λ p. ((build_faults p.0 p.1 r).1 p.2, p.3),
  )
