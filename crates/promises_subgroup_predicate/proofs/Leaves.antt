-- What a refused `from_predicate` leaves, on every input, whatever the handles and the buffers hold: with wrong arguments every buffer as it was, else exactly
-- the needed stretches and maps zero; and by which numbers in each case.
use Rattle.std.specs.Prelude.{Ok}
use Prim.Native.Nat.{ℕ}
use mathlib.Core.Path.{◌≡◌, refl, sym, ◌∙◌, subst}
use mathlib.Core.Bool.{Bool, true, false, ◌&&◌}
use mathlib.Core.List.{List, [], ◌∷◌}
use native.Mathlib.Nat.{le_refl}
use borrow.Author.Tests.{le-leb, leb-true}
use lib.Dec.{leb}
use lib.ListN.{length}
use Rattle.egg.specs.declared.Refusal.{Refusal}
use Rattle.egg.specs.Answers.{Verdict}
use Rattle.egg.specs.Refusals.{refusal_paper}
use Rattle.std.specs.Prelude.{Err}
use Rattle.egg.proofs.Rooms.{false_true, and_first, and_second}
use Rattle.egg.proofs.Scans.{refused_fine}
use Rattle.egg.specs.Answers.{numbered}
use Rattle.build_lending.specs.Lending.{table_need}
use Rattle.build_checks_laws.specs.Numbers.{member, RefusalIn}
use Rattle.build_checks_laws.proofs.Numbers.{each_in}
use Rattle.factor_laws.specs.Refuses.{VerdictIn}
use Rattle.factor_laws.proofs.Refuses.{verdict_fine, verdict_refused, verdict_pick}
use Rattle.promises.specs.Leaves.{Leaves, untouched, zeros}
use Rattle.group_handles.specs.declared.Group.{Group}
use Rattle.group_handles.specs.Handles.{handles, elements_of, all_fit}
use Rattle.subgroup_build.specs.Lent.{subgrouping, maps_right}
use Rattle.subgroup_build.specs.Generated.{small_enough}
use Rattle.subgroup_predicate.specs.Predicate.{admits_over, from_predicate}
use Rattle.subgroup_predicate.proofs.Told.{over_fine, over_admitted}
use Rattle.promises_subgroup_predicate.specs.Tells.{Predicated}
use Rattle.promises_subgroup_predicate.specs.Altered.{ToldStops, ninth, stopped, by_steps}
use Rattle.promises_subgroup.specs.Leaves.{maps_for, generators_after}
use Rattle.promises_subgroup_predicate.specs.Leaves.{predicate_before, predicate_after}
use Rattle.promises_subgroup.proofs.Called as called
use Rattle.promises_subgroup_predicate.proofs.ToldCalls as told
use Rattle.promises_subgroup_predicate.proofs.Telling.{eight_rows}
use Rattle.promises_subgroup_predicate.proofs.ToldLeaving.{predicate_cleared}
use Rattle.promises_subgroup_predicate.proofs.AlteredTold.{told_stops}
use Rattle.promises_subgroup.proofs.Leaves.{steps_number}

over_in : (len : ℕ) (over : Group) → VerdictIn predicate_before (admits_over len over)
unfolding admits_over
over_in len over =
    verdict_pick (all_fit len (handles over)) _ _ (verdict_pick (small_enough over) _ _ verdict_fine (verdict_refused _ refl)) (verdict_refused _ refl)

module _ (from : List ℕ) (over : Group) (members table : List ℕ) (start : ℕ) (work inn outw : List ℕ) (room : ℕ) (r : Refusal) (t w i o : List ℕ)
    (z : from_predicate from over members table start work inn outw room ≡ subgrouping (Err r) t w i o) where
  abbrev among : ℕ
  among = elements_of (handles over)

  abbrev Left : Type 0
  Left = Leaves (Predicated from over members table start work inn outw room) predicate_before predicate_after
      (maps_for table start work inn outw 8 among room t w i o) r

  predicate_late : Predicated from over members table start work inn outw room → RefusalIn predicate_after r
  predicate_late S = by (told_stops from over members table start work inn outw room S z) where
    by : ToldStops from over members room r → RefusalIn predicate_after r
    by (ninth gens x G e l m q) = rw q
    by (stopped gens count elt G m A asked o) = each_in (λ x. member x predicate_after) (refusal_paper r).number (17 ∷ []) refl m
    by (by_steps gens count elt v t' w' G A a q) =
        each_in (λ x. member x predicate_after) (refusal_paper r).number generators_after refl
        (steps_number from over gens S.fits (told.small from over members table start work inn outw room S) A room (table_need 8 room) v G.few
        (told.lo from over members table start work inn outw room S) (told.hi from over members table start work inn outw room S)
        (eight_rows (length gens) room (table_need 8 room) G.few (le_refl (table_need 8 room))) q)

  early_told : {f : Refusal} → ¬ (Predicated from over members table start work inn outw room) → RefusalIn predicate_before f
      → subgrouping (Err f) table work inn outw ≡ subgrouping (Err r) t w i o
      → Left
  early_told wrong p e = untouched wrong (subst (RefusalIn predicate_before) (called.same_refusal e) p) (cc, (cc, (cc, (cc, tt))))

  pub predicate_leaves : Leaves (Predicated from over members table start work inn outw room) predicate_before predicate_after
      (maps_for table start work inn outw 8 (elements_of (handles over)) room t w i o) r
  predicate_leaves =
      by (admits_over (length from) over)
      (maps_right (length table) start (length work) (length inn) (length outw) room 8 among && leb among (length members)) refl refl
    where
      by : (v : Verdict) (b : Bool) → admits_over (length from) over ≡ v
          → maps_right (length table) start (length work) (length inn) (length outw) room 8 among && leb among (length members) ≡ b → Left
      by (Err f) b q l =
          early_told (λ S. refused_fine (sym q ∙ sym (over_fine (length from) over S.fits refl S.small))) ((over_in (length from) over).of f q)
          (sym (told.early_arguments from over members table start work inn outw room q) ∙ z)
      by (Ok _) false q l =
          early_told {f = numbered 4 0 0 0} (λ S. false_true (sym l ∙ rw (S.lent, le-leb among (length members) S.bytes))) refl
          (sym (told.early_short from over members table start work inn outw room q l) ∙ z)
      by (Ok _) true q l =
          let A = over_admitted (length from) over refl q in
          let S : Predicated from over members table start work inn outw room = record {
            fits = A.0;
            small = A.1;
            lent = and_first _ _ l;
            bytes = leb-true _ _ (and_second (maps_right (length table) start (length work) (length inn) (length outw) room 8 among) _ l);
          } in
          zeros S (predicate_late S) (predicate_cleared from over members table start work inn outw room S z)
