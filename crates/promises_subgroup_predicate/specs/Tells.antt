-- This file states what `from_predicate` gives where it is accepted.
use Rattle.std.specs.Prelude.{ℕ, ◌+◌, ◌≤◌, ◌<◌, ◌≡◌, ◌↔◌, true, List, length, get_or}
use Rattle.build_lending.specs.Lending.{table_need, work_need, within}
use Rattle.group_handles.specs.declared.Group.{Group}
use Rattle.group_handles.specs.Handles.{handles, elements_of, all_fit}
use Rattle.promises_group.specs.Products.{direct}
use Rattle.build_numbering.specs.Renumber as appear
use Rattle.theory.specs.Subgroup as sub
use Rattle.subgroup_build.specs.declared.Subgroup.{Subgroup}
use Rattle.subgroup_build.specs.Lent.{maps_right}
use Rattle.subgroup_build.specs.Generated.{small_enough}
use Rattle.promises_subgroup.specs.Generates.{SubgroupHolds}
use Rattle.promises_subgroup_predicate.specs.Told.{Told}

-- The arguments are right, so that the builds start: 17 in the handles, 15 and 4 have passed. Table and work are lent as for 8 generators, and there
-- is a byte for each element of the overgroup.
pub record Predicated (from : List ℕ) (over : Group) (members table : List ℕ) (start : ℕ) (work inn outw : List ℕ) (room : ℕ) : Type 0 where
  pub fits : all_fit (length from) (handles over) ≡ true
  pub small : small_enough over ≡ true
  pub lent : maps_right (length table) start (length work) (length inn) (length outw) room 8 (elements_of (handles over)) ≡ true
  pub bytes : elements_of (handles over) ≤ length members

-- What an accepted call gives: the generators that were chosen, with all that holds of a subgroup by them; `Told` of the four stretches, which stand in their
-- buffers; and a predicate that is true of exactly a subgroup gives that subgroup.
pub record Tells (from : List ℕ) (over : Group) (members table : List ℕ) (start : ℕ) (work inn outw : List ℕ) (room : ℕ) (s : Subgroup)
    (t w i o : List ℕ) : Type 1 where
  pub started : Predicated from over members table start work inn outw room
  pub gens : List ℕ
  pub table₈ : List ℕ
  pub work₈ : List ℕ
  pub inn₈ : List ℕ
  pub outw₈ : List ℕ
  pub holds : SubgroupHolds from over gens s t i o
  pub handle : s.factor ≡ record { start = start; room = room; generators = length gens; elements = s.factor.elements }
  pub told : Told (direct from over).op (direct from over).inv (λ x. get_or members x 0) (elements_of (handles over)) room room (table_need 8 room)
      (work_need 8 room) gens s.factor.elements table₈ work₈ inn₈ outw₈
  pub table_is : t ≡ within table start (start + table_need 8 room) table₈
  pub work_is : w ≡ within work 0 (work_need 8 room) work₈
  pub inn_is : i ≡ within inn 0 (elements_of (handles over)) inn₈
  pub outw_is : o ≡ within outw 0 room outw₈
  pub exactly : {H : ℕ → Type 0} → sub.IsSubgroup (elements_of (handles over)) (direct from over).op (direct from over).inv H
      → ((y : ℕ) → y < elements_of (handles over) → H y ↔ ¬ (get_or members y 0 ≡ 0))
      → (y : ℕ) → y < elements_of (handles over) → (¬ (get_or i y 0 ≡ appear.no_number)) ↔ H y
