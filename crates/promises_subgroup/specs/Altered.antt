-- This file states what a call that makes a subgroup answers whatever the overgroup's buffer holds: its stretches may have been altered since they
-- were accepted. Document 01: "then 17 in what they read (13 or 17 as met)", and "Demand 1 and 17 need no premise".
use Rattle.std.specs.Prelude.{ℕ, ◌+◌, ◌*◌, ◌≤◌, ◌<◌, ◌≡◌, true, List, [], ◌∷◌, length, get_or, take, replicate}
use Rattle.egg.specs.declared.Refusal.{Refusal}
use Rattle.std.specs.Prelude.{Ok, Err}
use Rattle.build_reading.specs.Reading.{read_all}
use Rattle.build_lending.specs.Finish.{Built, built, finished_placed}
use Rattle.build_lending.specs.Lending.{table_need, work_need, within}
use Rattle.build_checks_laws.specs.Numbers.{RefusalIn}
use Rattle.factor_laws.specs.Accepted.{Accepted, factor_step}
use Rattle.build_laws.specs.Taken.{Taken}
use Rattle.group_handles.specs.declared.Group.{Group}
use Rattle.group_handles.specs.Handles.{handles, elements_of, all_fit, group_of}
use Rattle.build_numbering.specs.Build.{renumbering}
use Rattle.theory.specs.Orbit.{Orbit, numbered_step, Appearing}
use Rattle.build_numbering_laws.specs.Source.{out_of, AnsweredTo, AllAnswered, RefusedAt}
use Rattle.build_numbering_laws.specs.Maps.{MapsFilled}
use Rattle.subgroup_build.specs.declared.Subgroup.{Subgroup}
use Rattle.subgroup_build.specs.Lent.{Subgrouping, subgrouping, maps_back}
use Rattle.subgroup_rows.specs.Rows.{product_by}
use Rattle.subgroup_build.specs.Generated.{small_enough}
use Rattle.promises_subgroup.specs.Carried.{MapsUndo}
use Rattle.promises_subgroup.specs.Leaves.{maps_for, AllWrote}

-- The steps that are read: what the overgroup's `compose` answers, and a step to 0 where it refuses. What follows says each time that no such step was taken:
-- every product that was asked for was answered, or the first that was not is the refusal.
abbrev pub steps_read : List ℕ → Group → List ℕ → ℕ → ℕ → ℕ
steps_read from over gens = out_of 0 (product_by from (handles over) gens)

-- What the two maps hold after a build in which `count` elements appeared, the e-th of them being elt e of the overgroup. After acceptance the one
-- has for each element of the overgroup its number, or 4,294,967,295 where it did not appear, the other has elt e at e, and zero beyond (`MapsFilled`).
-- After a refusal both are zero.
pub data MapsAfter (M room count : ℕ) (elt : ℕ → ℕ) (inn outw : List ℕ) : Built → Type 0 where
  filled : {t w : List ℕ} → MapsFilled M room room elt count inn outw → MapsAfter M room count elt inn outw (built (Ok count) t w)
  zeros : {r : Refusal} {t w : List ℕ} → inn ≡ replicate M 0 → outw ≡ replicate room 0 → MapsAfter M room count elt inn outw (built (Err r) t w)

-- The build is that of composed rows: of these steps, numbered in order of first appearance; and each product that it asked for was answered (`AllAnswered`).
pub record BySteps (from : List ℕ) (over : Group) (gens table : List ℕ) (start : ℕ) (work inn outw : List ℕ) (room : ℕ) (m : Subgrouping) : Type 0 where
  pub count : ℕ
  pub elt : ℕ → ℕ
  pub appearing : Appearing (length gens) (elements_of (handles over)) (steps_read from over gens) 0 count elt
  pub answered : AllAnswered (product_by from (handles over) gens) 0 (length gens) room count elt
  pub inn' : List ℕ
  pub outw' : List ℕ
  pub maps : MapsAfter (elements_of (handles over)) room count elt inn' outw'
      (finished_placed (read_all (numbered_step count elt (steps_read from over gens)) (length gens) room (replicate (table_need (length gens) room) 0))
      (length gens) (take (work_need (length gens) room) work))
  pub is : m ≡ maps_back over table start work inn outw (elements_of (handles over)) (length gens) (length gens) room
      (renumbering (finished_placed (read_all (numbered_step count elt (steps_read from over gens)) (length gens) room (replicate (table_need (length gens) room) 0))
      (length gens) (take (work_need (length gens) room) work)) inn' outw')

-- Or a product that was asked for was refused, by 17, as the first (`RefusedAt`): its element has been reached, by products that were answered, its generator is
-- one of those given, and nothing was refused before it. Then that refusal stands, and the needed stretches and maps are zero.
pub record Stopped (from : List ℕ) (over : Group) (gens table : List ℕ) (start : ℕ) (work inn outw : List ℕ) (room : ℕ) (m : Subgrouping) : Type 0 where
  pub count : ℕ
  pub elt : ℕ → ℕ
  pub appearing : Appearing (length gens) (elements_of (handles over)) (steps_read from over gens) 0 count elt
  pub refusal : Refusal
  pub number : RefusalIn (17 ∷ []) refusal
  pub asked : RefusedAt (product_by from (handles over) gens) 0 (length gens) room count elt refusal
  pub reached : Orbit (length gens) (steps_read from over gens) 0 (elt asked.row)
  pub is : m ≡ subgrouping (Err refusal)
      (within table start (start + table_need (length gens) room) (replicate (table_need (length gens) room) 0))
      (within work 0 (work_need (length gens) room) (replicate (work_need (length gens) room) 0))
      (within inn 0 (elements_of (handles over)) (replicate (elements_of (handles over)) 0)) (within outw 0 room (replicate room 0))

-- What is accepted all the same, by these elements, with stretches as k generators need them: an accepted factor, so a group, whose steps are those that were
-- read, in their numbering, the product of each of its elements by each of its generators being one that was answered; maps that hold this numbering and undo
-- each other; zeros beyond the last element and in the work; and the excess of all four buffers as it was.
pub record Regardless (from : List ℕ) (over : Group) (gens : List ℕ) (k : ℕ) (table : List ℕ) (start : ℕ) (work inn outw : List ℕ) (room : ℕ) (s : Subgroup)
    (t w i o : List ℕ) : Type 1 where
  pub fits : all_fit (length from) (handles over) ≡ true
  pub small : small_enough over ≡ true
  pub value : s ≡ record { below = group_of []; factor = s.factor; over = over; above = group_of [] }
  pub handle : s.factor ≡ record { start = start; room = room; generators = length gens; elements = s.factor.elements }
  pub elt : ℕ → ℕ
  pub appearing : Appearing (length gens) (elements_of (handles over)) (steps_read from over gens) 0 s.factor.elements elt
  pub answered : AnsweredTo (product_by from (handles over) gens) 0 (length gens) elt s.factor.elements 0
  pub taken : Taken (numbered_step s.factor.elements elt (steps_read from over gens)) (length gens) room s.factor.elements
  pub accepted : Accepted t s.factor
  pub steps : {e g : ℕ} → e < s.factor.elements → g < length gens
      → factor_step t s.factor e g ≡ numbered_step s.factor.elements elt (steps_read from over gens) e g
  pub inn_long : elements_of (handles over) ≤ length i
  pub outw_long : room ≤ length o
  pub maps : MapsFilled (elements_of (handles over)) room room elt s.factor.elements (take (elements_of (handles over)) i) (take room o)
  pub carried : MapsUndo (elements_of (handles over)) s.factor.elements (λ e. get_or o e 0) (λ x. get_or i x 0)
  pub beyond : {j : ℕ} → s.factor.elements * (2 * length gens + 4) ≤ j → j < table_need k room → get_or t (start + j) 0 ≡ 0
  pub work_zero : w ≡ within work 0 (work_need k room) (replicate (work_need k room) 0)
  pub wrote : AllWrote (maps_for table start work inn outw k (elements_of (handles over)) room t w i o)
