-- Where 5, 6 and 7 come from: in an enumeration 5 and 6 are the run's, at the first place where no element can be made; on composed rows 5, 6 and 7 are the
-- reading's, exactly.
use Prim.Native.Nat.{ℕ, ◌+◌, ◌*◌, ◌≤◌}
use mathlib.Core.Path.{◌≡◌, refl, ap, ◌∙◌}
use mathlib.Core.Logic.{◌↔◌, ◌⊎◌, inl, inr, ⊎_elim}
use mathlib.Core.Bool.{true}
use mathlib.Core.List.{List, [], ◌∷◌}
use native.Mathlib.Nat.{le_refl}
use lib.ListN.{length, take, replicate}
use Rattle.egg.specs.declared.Refusal.{Refusal}
use Rattle.egg.specs.Answers.{fine}
use Rattle.egg.specs.Refusals.{refusal_paper}
use Rattle.std.specs.Prelude.{Ok, Err}
use Rattle.egg.specs.Pairs.{orders_right}
use Rattle.egg.specs.Factor.{has_room}
use Rattle.egg.proofs.Rooms.{positive, limited}
use Rattle.build_checks.specs.Checks.{check_group}
use Rattle.build_lending.specs.Finish.{built, zeroed, finished, finished_placed}
use Rattle.build_lending.specs.Lending.{table_need, work_need, lent_right, within, making, lent_back}
use Rattle.build_lending.proofs.Lending.{lent_table_lem}
use Rattle.build_reading.specs.Reading.{Placed, placed, read_all, composed_at}
use Rattle.factor.specs.Composed.{composed_in, composed}
use Rattle.enumeration_run.specs.Run.{RunResult, enumerated}
use Rattle.enumeration_run.specs.declared.inner.Ran.TheVariants as ran
use Rattle.enumeration.specs.Calls.{enumerates}
use Rattle.enumeration_run.specs.Limits.{Limits}
use Rattle.build_reading_laws.specs.Read.{ReadingRefused}
use Rattle.build_reading_laws.proofs.Readings.{accepted_read, refused_read, refuses_refused, refused_number}
use Rattle.promises.proofs.Composed.{composed_is_build}
use Rattle.enumeration.proofs.Handle.{enumerates_is_build}
use Rattle.enumeration.proofs.Calls.{limits}
use Rattle.build_checks_laws.specs.Numbers.{member, late_numbers}
use Rattle.build_checks_laws.proofs.Numbers.{none_of, ranged_numbers}
use Rattle.enumeration_run_laws.specs.Going.{Broken}
use Rattle.enumeration_run_laws.proofs.Going.{refused_broken}
use Rattle.promises.proofs.Passing.{read_ranges}
use Rattle.promises.proofs.Zeros.{check_zeros, enumerated_stops, stopped_built, stopped_number}
use Rattle.promises.proofs.Leaves.{composed_refused, enumeration_refused}

module _ (table : List ℕ) (start : ℕ) (work orders : List ℕ) (n room : ℕ) (hn : n ≤ 8) (right : orders_right orders n ≡ fine)
    (lent : lent_right (length table) start (length work) room n ≡ true) where
  abbrev run : RunResult
  run = enumerated n orders room (table_need n room) (work_need n room)

  abbrev L : Limits n orders room (table_need n room) (work_need n room)
  L = limits table start work orders n room hn right lent

  -- 5 and 6 exactly where the run is refused.
  pub enumeration_stops : (r : Refusal)
      → ((t : List ℕ) × (w : List ℕ) × (enumerates table start work orders n room ≡ making (Err r) t w)
      × (member (refusal_paper r).number (5 ∷ 6 ∷ []) ≡ true)) ↔ ((enumerated n orders room (table_need n room) (work_need n room)).answer ≡ ran.Refused r)
  enumeration_stops r = (
    λ a. ⊎_elim
        (λ E. absurd (none_of (refusal_paper r).number (5 ∷ 6 ∷ []) (1 ∷ 2 ∷ 3 ∷ 4 ∷ []) refl a.3 E.number))
        (λ B. enumerated_stops orders n room (table_need n room) (work_need n room) L right B.1.is a.3)
        (enumeration_refused table start work orders n room r a.0 a.1 a.2),
    λ q. (
      within table start (start + table_need n room) (zeroed run.table),
      within work 0 (work_need n room) (zeroed run.work),
      enumerates_is_build table start work orders n room hn right lent
          ∙ ap (lent_back table start work n room) (stopped_built orders n room (table_need n room) (work_need n room) L right q),
      stopped_number orders n room (table_need n room) (work_need n room) L right q,
    ),
  )

  -- And there it is the first place at which an element is needed and there is no room for it, or its word would be too long.
  pub enumeration_broken : {r : Refusal} → (enumerated n orders room (table_need n room) (work_need n room)).answer ≡ ran.Refused r
      → Broken n orders room (table_need n room) (work_need n room) (enumerated n orders room (table_need n room) (work_need n room)).table
      (enumerated n orders room (table_need n room) (work_need n room)).work r
  enumeration_broken q = refused_broken L q

-- A build from the numbers of any source.
module _ (src : ℕ → ℕ → ℕ) (n room size : ℕ) (w₀ : List ℕ) (few : n ≤ 8) (lo : 1 ≤ room) (hi : room ≤ 65535) (fits : room * (2 * n + 4) ≤ size) where
  stops_by : (p : Placed) → read_all src n room (replicate size 0) ≡ p → {r : Refusal} {t w : List ℕ} → finished_placed p n w₀ ≡ built (Err r) t w
      → member (refusal_paper r).number (5 ∷ 6 ∷ 7 ∷ []) ≡ true → ReadingRefused src n room r
  unfolding finished
  stops_by (placed (Ok c) t₀) e {r} q five =
      let Z = check_zeros (8 ∷ late_numbers) refl t₀ w₀ n c (ranged_numbers t₀ n c (read_ranges (accepted_read src n room size few lo hi fits e)))
      (check_group t₀ w₀ n c) refl q in
      absurd (none_of (refusal_paper r).number (5 ∷ 6 ∷ 7 ∷ []) (8 ∷ late_numbers) refl five Z.number)
  stops_by (placed (Err s) t₀) e {r} q five =
      let i : s ≡ r = cc in
      refused_read src n room size few lo hi fits (e ∙ ap (λ (x : Refusal). placed (Err x) t₀) i)

  pub built_stops : {r : Refusal} {t w : List ℕ} → finished_placed (read_all src n room (replicate size 0)) n w₀ ≡ built (Err r) t w → member (refusal_paper r).number (5 ∷ 6 ∷ 7 ∷ []) ≡ true
      → ReadingRefused src n room r
  built_stops q = stops_by (read_all src n room (replicate size 0)) refl q

  pub stops_built : {r : Refusal} → ReadingRefused src n room r → (t : List ℕ) × (finished_placed (read_all src n room (replicate size 0)) n w₀ ≡ built (Err r) t (zeroed w₀))
  unfolding finished
  stops_built S = let a = refuses_refused src n room size few lo hi fits S in (zeroed a.0, rw a.1)

reading_number : {k : ℕ} → (k ≡ 7) ⊎ ((k ≡ 5) ⊎ (k ≡ 6)) → member k (5 ∷ 6 ∷ 7 ∷ []) ≡ true
reading_number (inl a) = rw a
reading_number (inr (inl a)) = rw a
reading_number (inr (inr a)) = rw a

module _ (table : List ℕ) (start : ℕ) (work rows : List ℕ) (n room : ℕ) (hn : n ≤ 8)
    (lent : lent_right (length table) start (length work) room n ≡ true) (listed : room * n ≤ length rows) where
  has : has_room (length table) start room n ≡ true
  has = lent_table_lem (length table) start (length work) room n lent

  -- 5, 6 and 7 exactly where reading first cannot go on.
  pub composed_stops : (r : Refusal)
      → ((t : List ℕ) × (w : List ℕ) × (composed table start work rows n room ≡ making (Err r) t w)
      × (member (refusal_paper r).number (5 ∷ 6 ∷ 7 ∷ []) ≡ true)) ↔ ReadingRefused (composed_at rows n) n room r
  unfolding composed_in
  composed_stops r = (
    λ a. ⊎_elim
        (λ E. absurd (none_of (refusal_paper r).number (5 ∷ 6 ∷ 7 ∷ []) (1 ∷ 4 ∷ []) refl a.3 E.number))
        (λ B. built_stops (composed_at rows n) n room (table_need n room) (take (work_need n room) work) hn (positive (length table) start room n has)
        (limited (length table) start room n has) (le_refl (table_need n room)) B.1.is a.3)
        (composed_refused table start work rows n room r a.0 a.1 a.2),
    λ S.
        let b = stops_built (composed_at rows n) n room (table_need n room) (take (work_need n room) work) hn (positive (length table) start room n has)
        (limited (length table) start room n has) (le_refl (table_need n room)) S in (
          within table start (start + table_need n room) b.0,
          within work 0 (work_need n room) (zeroed (take (work_need n room) work)),
          composed_is_build table start work rows n room hn lent listed ∙ ap (lent_back table start work n room) b.1,
          reading_number (refused_number S),
        ),
  )
