-- `from_predicate` over any buffer, altered or not: what is accepted is an accepted factor, by at most eight generators; and by what it is refused once it has
-- started.
use Prim.Native.Nat.{ℕ, zero, suc, ◌+◌, ◌*◌, ◌≤◌, ◌<◌}
use mathlib.Core.Path.{◌≡◌, refl, sym, ap, ◌∙◌, subst}
use mathlib.Core.Logic.{◌⊎◌, inl, inr}
use mathlib.Core.List.{List, [], ◌∷◌, ◌++◌}
use native.Mathlib.Nat.{le_refl}
use native.Mathlib.Omega.{arith}
use borrow.Author.Tests.{ltb-true, ltb-false}
use lib.Dec.{ltb}
use lib.ListN.{length, get_or, take}
use Rattle.egg.specs.declared.Refusal.{Refusal}
use Rattle.egg.specs.Answers.{Reached}
use Rattle.std.specs.Prelude.{Ok, Err}
use Rattle.theory.proofs.Counting.{row_known}
use Rattle.theory.proofs.RuleLaws.{count_within}
use Rattle.egg.specs.Answers.{numbered}
use Rattle.build_lending.specs.Finish.{built, zeroed}
use Rattle.build_lending.specs.Lending.{table_need, work_need}
use Rattle.group_handles.specs.declared.Group.{Group}
use Rattle.group_handles.specs.Handles.{handles, elements_of}
use Rattle.group_digits.specs.Digits.{composes}
use Rattle.build_numbering.specs.Build.{Renumbering, renumbering, renumber_in}
use Rattle.theory.specs.Orbit.{Inside, Appearing}
use Rattle.build_numbering_laws.specs.Source.{total, AllAnswered, RefusedAt}
use Rattle.build_numbering_laws.proofs.Order.{appearing}
use Rattle.build_numbering_laws.proofs.Partial.{total_answering, partial_build}
use Rattle.build_numbering_laws.proofs.Builds.{built_of, renumber_built, same_refusal, not_refused}
use Rattle.subgroup_build.specs.declared.Subgroup.{Subgroup}
use Rattle.subgroup_build.specs.Lent.{subgrouping}
use Rattle.subgroup_rows.specs.Rows.{product_by}
use Rattle.subgroup_predicate_choices.specs.Choices.{Picked, picked, is_new_member, chooses, again_in}
use Rattle.subgroup_predicate.specs.Predicate.{predicate_in, from_predicate}
use Rattle.subgroup_predicate_choices.specs.Choices as choices
use Rattle.promises_subgroup_predicate.specs.Predicate.{Gathered}
use Rattle.promises_subgroup_predicate.specs.Tells.{Predicated}
use Rattle.promises_subgroup.specs.Altered.{steps_read, Regardless}
use Rattle.promises_subgroup_predicate.specs.Altered.{ToldStops, ninth, stopped, by_steps}
use Rattle.promises_subgroup_predicate.proofs.Choosing.{pick_ends, gathered_later, gathered_more, nothing_gathered, new_byte}
use Rattle.promises_subgroup_predicate.proofs.Telling.{eight_rows, eight_work, same_gens, same_build}
use Rattle.promises_subgroup.proofs.Leaving.{accepted_lengths}
use Rattle.promises_subgroup_predicate.proofs.ToldCalls as told
use Rattle.promises_subgroup.proofs.Regardless.{composes_17, steps_inside, regardless, regardless_at}

-- The last build, by at most eight members; or a ninth was needed.
data Last (L M : ℕ) (byte : ℕ → ℕ) (again : List ℕ → List ℕ → Renumbering) : Picked → Type 0 where
  by_few : {gens : List ℕ} {r : Renumbering} (w₀ : List ℕ) → Gathered byte M gens → length w₀ ≡ L → again gens w₀ ≡ r → Last L M byte again (picked gens r)
  by_ninth : (gens : List ℕ) (x : ℕ) (t w i o : List ℕ) → Gathered byte x gens → length gens ≡ 8 → x < M → ¬ (byte x ≡ 0)
      → Last L M byte again (picked gens (choices.ninth t w i o))

module _ (L M : ℕ) (again : List ℕ → List ℕ → Renumbering)
    (keeps : (gens w₀ : List ℕ) (c : ℕ) (t w i o : List ℕ) → again gens w₀ ≡ renumbering (built (Ok c) t w) i o → length w ≡ length w₀) (byte : ℕ → ℕ) where
  chooses_last : (k x : ℕ) (gens : List ℕ) (r : Renumbering) (w₀ : List ℕ) → k + x ≡ M → Gathered byte x gens → length w₀ ≡ L → again gens w₀ ≡ r
      → Last L M byte again (chooses k again byte x gens r)
  unfolding chooses
  chooses_last zero x gens r w₀ e G l q = by_few w₀ (gathered_later G (omega arith)) l q
  chooses_last (suc k) x gens (renumbering (built (Err f) t w) i o) w₀ e G l q = by_few w₀ (gathered_later G (omega arith)) l q
  chooses_last (suc k) x gens (renumbering (built (Ok c) t w) i o) w₀ e G l q =
      pick_ends (Last L M byte again) (is_new_member i byte x) (ltb (length gens) 8)
      (λ n d. chooses_last k (x + 1) (gens ++ (x ∷ [])) (again (gens ++ (x ∷ [])) w) w (omega arith)
      (gathered_more G (ltb-true (length gens) 8 d) (new_byte i byte x n)) (keeps gens w₀ c t w i o q ∙ l) refl)
      (λ n d. by_ninth gens x t w i o G (omega (arith, ltb-false (length gens) 8 d, G.few)) (omega arith) (new_byte i byte x n))
      (λ n. chooses_last k (x + 1) gens (renumbering (built (Ok c) t w) i o) w₀ (omega arith) (gathered_later G (omega arith)) l q)

predicate_last : (size : ℕ) (w : List ℕ) (source : ℕ → ℕ → Reached) (room M K : ℕ) (byte : ℕ → ℕ)
    → Last (length w) M byte (again_in size source room M K) (predicate_in size w source room M K byte)
predicate_last size w source room M K byte =
    chooses_last (length w) M (again_in size source room M K)
    (λ gens w₀ c t w₁ i o q. (accepted_lengths size w₀ (λ y g. source y (get_or gens g 0)) (length gens) room M K 0 q).1.0) byte M 0 []
    (again_in size source room M K [] w) w (omega arith) nothing_gathered refl refl

last_counted : {L M : ℕ} {byte : ℕ → ℕ} {again : List ℕ → List ℕ → Renumbering} {p : Picked} {gens : List ℕ} {c : ℕ} {t w i o : List ℕ} → Last L M byte again p
    → p ≡ picked gens (renumbering (built (Ok c) t w) i o)
    → Gathered byte M gens × ((w₀ : List ℕ) × (length w₀ ≡ L) × (again gens w₀ ≡ renumbering (built (Ok c) t w) i o))
last_counted {M = M} {byte = byte} {again = again} (by_few w₀ G l z) q =
    let e = same_gens q in
    (subst (Gathered byte M) e G, (w₀, l, ap (λ (g : List ℕ). again g w₀) (sym e) ∙ z ∙ same_build q))
last_counted (by_ninth gens x t w i o G e l m) q = absurd (not_refused (same_build q))

last_refused : {L M : ℕ} {byte : ℕ → ℕ} {again : List ℕ → List ℕ → Renumbering} {p : Picked} {gens : List ℕ} {r : Refusal} {t w i o : List ℕ}
    → Last L M byte again p → p ≡ picked gens (renumbering (built (Err r) t w) i o)
    → ((x : ℕ) × Gathered byte x gens × (length gens ≡ 8) × (x < M) × (¬ (byte x ≡ 0)) × (r ≡ numbered 15 0 0 0))
    ⊎ (Gathered byte M gens × ((w₀ : List ℕ) × (length w₀ ≡ L) × (again gens w₀ ≡ renumbering (built (Err r) t w) i o)))
last_refused {M = M} {byte = byte} {again = again} (by_few w₀ G l z) q =
    let e = same_gens q in
    inr (subst (Gathered byte M) e G, (w₀, l, ap (λ (g : List ℕ). again g w₀) (sym e) ∙ z ∙ same_build q))
last_refused {byte = byte} (by_ninth gens x t w i o G k l m) q =
    let e = same_gens q in
    inl (x, subst (Gathered byte x) e G, subst (λ (g : List ℕ). length g ≡ 8) e k, l, m, sym (same_refusal (same_build q)))

-- What is accepted is an accepted factor, whatever the arguments and the buffers were, by at most eight members in their order.
module _ (from : List ℕ) (over : Group) (members table : List ℕ) (start : ℕ) (work inn outw : List ℕ) (room : ℕ) {s : Subgroup} {t w i o : List ℕ}
    (q : from_predicate from over members table start work inn outw room ≡ subgrouping (Ok s) t w i o) where
  pub told_regardless : (gens : List ℕ) × Gathered (λ x. get_or members x 0) (elements_of (handles over)) gens
      × Regardless from over gens 8 table start work inn outw room s t w i o
  told_regardless =
      let M : ℕ = elements_of (handles over) in
      let v : List ℕ = take (work_need 8 room) work in
      let p : Picked = predicate_in (table_need 8 room) v (composes from (handles over)) room M room (λ x. get_or members x 0) in
      let S = told.accepted_started from over members table start work inn outw room q in
      let B = told.back_accepted from over members table start work inn outw room p (sym (told.is_told from over members table start work inn outw room S) ∙ q) in
      let D = last_counted (predicate_last (table_need 8 room) v (composes from (handles over)) room M room (λ x. get_or members x 0)) B.is in (
        B.gens,
        D.0,
        regardless_at B.value B.table_is B.work_is B.inn_is B.outw_is
            (regardless from over B.gens 8 table start work inn outw room S.fits S.small S.lent
            D.0.few (le_refl 8) D.1.0 (D.1.1 ∙ told.work_long from over members table start work inn outw room S) D.1.2),
      )

module _ (from : List ℕ) (over : Group) (members table : List ℕ) (start : ℕ) (work inn outw : List ℕ) (room : ℕ)
    (S : Predicated from over members table start work inn outw room) where
  abbrev size : ℕ
  size = table_need 8 room

  module _ (gens w₀ : List ℕ) (G : Gathered (λ x. get_or members x 0) (elements_of (handles over)) gens) where
    few : length gens ≤ 8
    few = G.few

    abbrev source : ℕ → ℕ → Reached
    source = product_by from (handles over) gens

    abbrev M : ℕ
    M = elements_of (handles over)

    I : Inside (length gens) (elements_of (handles over)) (steps_read from over gens) 0
    I = steps_inside from over gens S.fits

    A : Appearing (length gens) (elements_of (handles over)) (steps_read from over gens) 0 (appearing I).0 (appearing I).1
    A = (appearing I).2

    small : elements_of (handles over) ≤ 4294967295
    small = told.small from over members table start work inn outw room S

    lo : 1 ≤ room
    lo = told.lo from over members table start work inn outw room S

    hi : room ≤ 65535
    hi = told.hi from over members table start work inn outw room S

    rows : room * (2 * length gens + 4) ≤ table_need 8 room
    rows = eight_rows (length gens) room (table_need 8 room) few (le_refl (table_need 8 room))

    refused_by : {r : Refusal} {t w i o : List ℕ} → length w₀ ≡ length (take (work_need 8 room) work)
        → renumber_in (table_need 8 room) w₀ (product_by from (handles over) gens) (length gens) room (elements_of (handles over)) room 0
        ≡ renumbering (built (Err r) t w) i o → ToldStops from over members room r
    refused_by {r} {t} {w} {i} {o} l z = go (partial_build source 0 A I small room room lo hi (le_refl room) (table_need 8 room) few rows w₀) where
      go : ((renumber_in size w₀ source (length gens) room M room 0 ≡ renumber_in size w₀ (total source 0) (length gens) room M room 0)
          × AllAnswered source 0 (length gens) room (appearing I).0 (appearing I).1)
          ⊎ ((r : Refusal) × RefusedAt source 0 (length gens) room (appearing I).0 (appearing I).1 r × (t : List ℕ) × (i : List ℕ) × (o : List ℕ)
          × (renumber_in size w₀ source (length gens) room M room 0 ≡ renumbering (built (Err r) (zeroed t) (zeroed w₀)) (zeroed i) (zeroed o)))
          → ToldStops from over members room r
      go (inl (e, a)) =
          by_steps gens (appearing I).0 (appearing I).1 w₀ t w G A a
          (sym (renumber_built A I small (total source 0) (total_answering (length gens) M source 0) room room lo hi (le_refl room) (table_need 8 room) w₀ few rows
          (eight_work (length gens) room (length w₀) few (rw l (told.work_fits from over members table start work inn outw room S))))
          ∙ ap built_of (sym e ∙ z))
      go (inr (f, b, t', i', o', e)) =
          let y : f ≡ r = same_refusal (sym e ∙ z) in
          let c : RefusedAt (product_by from (handles over) gens) 0 (length gens) room (appearing I).0 (appearing I).1 r =
          subst (RefusedAt (product_by from (handles over) gens) 0 (length gens) room (appearing I).0 (appearing I).1) y b in
          stopped gens (appearing I).0 (appearing I).1 G
          ((composes_17 from (handles over) ((appearing I).1 c.row) (get_or gens c.column 0)).of r c.refused) A c
          (A.reached (omega (arith, row_known c.before.known, count_within A.by_rule c.before.known)))

  -- Refused once it has started.
  pub told_stops : {r : Refusal} {t w i o : List ℕ}
      → from_predicate from over members table start work inn outw room ≡ subgrouping (Err r) t w i o
      → ToldStops from over members room r
  told_stops {r} q =
      let T = told.back_refused from over members table start work inn outw room _ (sym (told.is_told from over members table start work inn outw room S) ∙ q) in
      by T.0 (last_refused (predicate_last (table_need 8 room) (take (work_need 8 room) work) (composes from (handles over)) room (elements_of (handles over)) room
      (λ x. get_or members x 0)) T.5)
    where
      by : (gens : List ℕ) {t w i o : List ℕ}
          → ((x : ℕ) × Gathered (λ x. get_or members x 0) x gens × (length gens ≡ 8) × (x < elements_of (handles over)) × (¬ (get_or members x 0 ≡ 0))
          × (r ≡ numbered 15 0 0 0))
          ⊎ (Gathered (λ x. get_or members x 0) (elements_of (handles over)) gens
          × ((w₀ : List ℕ) × (length w₀ ≡ length (take (work_need 8 room) work))
          × (again_in (table_need 8 room) (composes from (handles over)) room (elements_of (handles over)) room gens w₀ ≡ renumbering (built (Err r) t w) i o)))
          → ToldStops from over members room r
      by gens (inl (x, G, e, l, m, q)) = ninth gens x G e l m q
      by gens (inr (G, (w₀, l, z))) = refused_by gens w₀ G l z
