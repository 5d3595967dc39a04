-- What a refused `from_generators` leaves, on every input, whatever the handles and the buffers hold: with wrong arguments every buffer as it
-- was, else exactly the needed stretches and maps zero; and by which numbers in each case.
use Prim.Native.Nat.{ℕ, ◌+◌, ◌*◌, ◌≤◌, ◌<◌}
use mathlib.Core.Path.{◌≡◌, refl, sym, ap, ◌∙◌, subst}
use mathlib.Core.Logic.{◌⊎◌, inl, inr}
use mathlib.Core.Bool.{Bool, true, false}
use mathlib.Core.List.{List, [], ◌∷◌}
use native.Mathlib.Nat.{le_refl}
use native.Mathlib.Omega.{arith}
use borrow.Author.Tests.{ltb-true, ltb-false}
use lib.Dec.{ltb, leb}
use lib.ListN.{length, get_or, take, replicate}
use Rattle.egg.specs.declared.Refusal.{Refusal}
use Rattle.egg.specs.Answers.{Verdict}
use Rattle.egg.specs.Refusals.{refusal_paper}
use Rattle.std.specs.Prelude.{Ok, Err}
use Rattle.egg.specs.Scan.{and_then}
use Rattle.egg.proofs.Rooms.{false_true}
use Rattle.egg.proofs.Scans.{refused_fine}
use Rattle.build_checks.specs.Checks.{check_group}
use Rattle.egg.specs.Answers.{numbered}
use Rattle.build_reading.specs.Reading.{Placed, placed, read_all}
use Rattle.build_lending.specs.Finish.{built, finished, finished_placed}
use Rattle.build_lending.specs.Lending.{table_need, work_need}
use Rattle.build_checks_laws.specs.Numbers.{member, RefusalIn, late_numbers}
use Rattle.build_checks_laws.proofs.Numbers.{each_in, ranged_numbers}
use Rattle.build_reading_laws.proofs.Readings.{accepted_read, refused_read}
use Rattle.factor_laws.specs.Refuses.{VerdictIn}
use Rattle.factor_laws.proofs.Refuses.{verdict_fine, verdict_refused, verdict_pick, verdict_scan}
use Rattle.promises.specs.Leaves.{Leaves, untouched, zeros}
use Rattle.promises.proofs.Zeros.{check_zeros}
use Rattle.promises.proofs.Passing.{read_ranges}
use Rattle.group_handles.specs.declared.Group.{Group}
use Rattle.group_handles.specs.Handles.{handles, elements_of, all_fit}
use Rattle.build_numbering.specs.Build.{renumbering}
use Rattle.theory.specs.Orbit.{Inside, numbered_step, Appearing}
use Rattle.build_numbering_laws.specs.Source.{total}
use Rattle.build_numbering_laws.proofs.Partial.{total_answering}
use Rattle.build_numbering_laws.proofs.Numberings.{refused_5_or_6}
use Rattle.build_numbering_laws.proofs.Builds.{built_of}
use Rattle.factor_walk.specs.Walked.{shown}
use Rattle.subgroup_build.specs.Lent.{subgrouping, maps_right}
use Rattle.subgroup_rows.specs.Rows.{product_by}
use Rattle.subgroup_build.specs.Generated.{entry_right, entries_right, small_enough, admits_generators, from_generators}
use Rattle.subgroup_build.proofs.Admits.{generators_fine, admitted}
use Rattle.promises_subgroup.specs.Generates.{Started}
use Rattle.promises_subgroup.specs.Altered.{steps_read, BySteps, Stopped}
use Rattle.promises_subgroup.specs.Leaves.{maps_for, generators_before, generators_after}
use Rattle.promises_subgroup.proofs.Called as called
use Rattle.promises_subgroup.proofs.Leaving.{generators_cleared}
use Rattle.promises_subgroup.proofs.Regardless.{steps_inside}
use Rattle.promises_subgroup.proofs.Altered.{generators_any}

-- The steps that are read, numbered in order of first appearance: a build of them is refused by 5 or 6 in its reading, where 7 never comes, or by 8 to 12.
module _ (from : List ℕ) (over : Group) (gens : List ℕ) (fits : all_fit (length from) (handles over) ≡ true) (small : elements_of (handles over) ≤ 4294967295)
    {count : ℕ} {elt : ℕ → ℕ} (A : Appearing (length gens) (elements_of (handles over)) (steps_read from over gens) 0 count elt)
    (room size : ℕ) (w₀ : List ℕ) (few : length gens ≤ 8) (lo : 1 ≤ room) (hi : room ≤ 65535) (enough : room * (2 * length gens + 4) ≤ size)
  where
    abbrev n : ℕ
    n = length gens

    abbrev src : ℕ → ℕ → ℕ
    src = numbered_step count elt (steps_read from over gens)

    I : Inside (length gens) (elements_of (handles over)) (steps_read from over gens) 0
    I = steps_inside from over gens fits

    reading : {r : Refusal} → (e : ℕ) × (g : ℕ) × (g < n) × ((r ≡ numbered 5 e g 0) ⊎ (r ≡ numbered 6 e g 0)) → RefusalIn generators_after r
    reading (e, g, h, inl q) = rw q
    reading (e, g, h, inr q) = rw q

    by_reading : (p : Placed) → read_all src n room (replicate size 0) ≡ p → {r : Refusal} {t w : List ℕ} → finished_placed p n w₀ ≡ built (Err r) t w
        → RefusalIn generators_after r
    unfolding finished
    by_reading (placed (Ok c) t₀) e {r} q =
        each_in (λ x. member x generators_after) (refusal_paper r).number (8 ∷ late_numbers) refl
        (check_zeros (8 ∷ late_numbers) refl t₀ w₀ n c (ranged_numbers t₀ n c (read_ranges (accepted_read src n room size few lo hi enough e)))
        (check_group t₀ w₀ n c) refl q).number
    by_reading (placed (Err s) t₀) e {r} q =
        let i : s ≡ r = cc in
        subst (RefusalIn generators_after) i
        (reading (refused_5_or_6 A I small (total (product_by from (handles over) gens) 0)
        (total_answering n (elements_of (handles over)) (product_by from (handles over) gens) 0) room room lo hi (le_refl room)
        (refused_read src n room size few lo hi enough e)))

    pub steps_number : {r : Refusal} {t w : List ℕ}
        → finished_placed (read_all (numbered_step count elt (steps_read from over gens)) (length gens) room (replicate size 0)) (length gens) w₀ ≡ built (Err r) t w
        → RefusalIn generators_after r
    steps_number q = by_reading (read_all src n room (replicate size 0)) refl q

then_in : {l : List ℕ} (u v : Verdict) → VerdictIn l u → VerdictIn l v → VerdictIn l (and_then u v)
then_in (Ok _) v p q = q
then_in (Err s) v p q = p

admits_in : (len : ℕ) (over : Group) (gens : List ℕ) → VerdictIn generators_before (admits_generators len over gens)
unfolding admits_generators entries_right
admits_in len over gens =
    verdict_pick (all_fit len (handles over)) _ _
    (then_in _ _ (verdict_scan (length gens) (entry_right (elements_of (handles over)) gens) 0
    (λ i. verdict_pick (leb (elements_of (handles over)) (get_or gens i 0)) _ _ (verdict_refused _ refl) verdict_fine))
    (verdict_pick (small_enough over) _ _ verdict_fine (verdict_refused _ refl)))
    (verdict_refused _ refl)

module _ (from : List ℕ) (over : Group) (gens table : List ℕ) (start : ℕ) (work inn outw : List ℕ) (room : ℕ) (r : Refusal) (t w i o : List ℕ)
    (z : from_generators from over gens table start work inn outw room ≡ subgrouping (Err r) t w i o) where
  abbrev M : ℕ
  M = elements_of (handles over)

  abbrev Claim : Type 0
  Claim = Leaves (Started from over gens table start work inn outw room) generators_before generators_after
      (maps_for table start work inn outw (length gens) M room t w i o) r

  generators_late : Started from over gens table start work inn outw room → RefusalIn generators_after r
  generators_late S = by (generators_any from over gens table start work inn outw room S) where
    by : BySteps from over gens table start work inn outw room (from_generators from over gens table start work inn outw room)
        ⊎ Stopped from over gens table start work inn outw room (from_generators from over gens table start work inn outw room) → RefusalIn generators_after r
    by (inl B) =
        let n : ℕ = length gens in
        let v : List ℕ = take (work_need n room) work in
        let p : Placed = read_all (numbered_step B.count B.elt (steps_read from over gens)) n room (replicate (table_need n room) 0) in
        let T = called.back_refused from over gens table start work inn outw room (renumbering (finished_placed p n v) B.inn' B.outw') (sym B.is ∙ z) in
        steps_number from over gens S.fits (called.small from over gens table start work inn outw room S) B.appearing room (table_need n room) v
        S.few (called.lo from over gens table start work inn outw room S) (called.hi from over gens table start work inn outw room S) (le_refl (table_need n room))
        (ap built_of T.is)
    by (inr B) =
        each_in (λ x. member x generators_after) (refusal_paper r).number (17 ∷ []) refl
        (subst (RefusalIn (17 ∷ [])) (called.same_refusal (sym B.is ∙ z)) B.number)

  early : {f : Refusal} → ¬ (Started from over gens table start work inn outw room) → RefusalIn generators_before f
      → subgrouping (Err f) table work inn outw ≡ subgrouping (Err r) t w i o
      → Claim
  early wrong p e = untouched wrong (subst (RefusalIn generators_before) (called.same_refusal e) p) (cc, (cc, (cc, (cc, tt))))

  pub generators_leaves : Leaves (Started from over gens table start work inn outw room) generators_before generators_after
      (maps_for table start work inn outw (length gens) (elements_of (handles over)) room t w i o) r
  generators_leaves =
      by (admits_generators (length from) over gens) (ltb 8 (length gens))
      (maps_right (length table) start (length work) (length inn) (length outw) room (length gens) M) refl refl refl
    where
      by : (v : Verdict) (a b : Bool) → admits_generators (length from) over gens ≡ v → ltb 8 (length gens) ≡ a
          → maps_right (length table) start (length work) (length inn) (length outw) room (length gens) M ≡ b → Claim
      by (Err f) a b q k l =
          early (λ S. refused_fine (sym q ∙ sym (generators_fine (length from) over gens S.fits refl S.entries refl S.small)))
          ((admits_in (length from) over gens).of f q) (sym (called.early_arguments from over gens table start work inn outw room q) ∙ z)
      by (Ok _) true b q k l =
          early {f = numbered 1 (shown (length gens)) 0 0} (λ S. omega (arith, S.few, ltb-true 8 (length gens) k)) refl
          (sym (called.early_many from over gens table start work inn outw room q (ltb-true 8 (length gens) k)) ∙ z)
      by (Ok _) false false q k l =
          early {f = numbered 4 0 0 0} (λ S. false_true (sym l ∙ S.lent)) refl
          (sym (called.early_short from over gens table start work inn outw room q (ltb-false 8 (length gens) k) l) ∙ z)
      by (Ok _) false true q k l =
          let A = admitted (length from) over gens q in
          let S : Started from over gens table start work inn outw room =
          record { fits = A.fits; entries = A.entries; small = A.small; few = ltb-false 8 (length gens) k; lent = l } in
          zeros S (generators_late S) (generators_cleared from over gens table start work inn outw room S z)
