-- This file states what `from_generators` gives where it is accepted, and when it is.
use Rattle.std.specs.Prelude.{Ok}
use Rattle.std.specs.Prelude.{ℕ, ◌+◌, ◌*◌, ◌≤◌, ◌<◌, ◌≡◌, true, List, [], length, get_or, take, replicate}
use Rattle.egg.specs.Answers.{fine}
use Rattle.egg.specs.Factor.{stretch}
use Rattle.build_lending.specs.Lending.{table_need, work_need, within}
use Rattle.theory.specs.Appearance.{recorded}
use Rattle.theory.specs.Regular.{compose, inverse}
use Rattle.factor_laws.specs.Accepted.{Accepted, factor_step, factor_back, factor_word}
use Rattle.group_handles.specs.declared.Group.{Group}
use Rattle.group_handles.specs.Handles.{handles, elements_of, all_fit, group_of}
use Rattle.promises_group.specs.Products.{direct}
use Rattle.build_numbering.specs.Renumber as appear
use Rattle.theory.specs.Orbit.{numbered_step}
use Rattle.theory.specs.Subgroup.{right_by, Generated, Proper}
use Rattle.subgroup_build.specs.declared.Subgroup.{Subgroup}
use Rattle.subgroup_build.specs.Lent.{Subgrouping, subgrouping, maps_right}
use Rattle.subgroup_build.specs.Generated.{entries_right, small_enough}
use Rattle.promises_subgroup.specs.Carried.{MapsUndo, Homomorphic}

-- The arguments are right, and the buffers long enough, so that the build starts: 17 in the handles, 14, 15, 1 and 4 have passed.
pub record Started (from : List ℕ) (over : Group) (gens table : List ℕ) (start : ℕ) (work inn outw : List ℕ) (room : ℕ) : Type 0 where
  pub fits : all_fit (length from) (handles over) ≡ true
  pub entries : entries_right (elements_of (handles over)) gens ≡ fine
  pub small : small_enough over ≡ true
  pub few : length gens ≤ 8
  pub lent : maps_right (length table) start (length work) (length inn) (length outw) room (length gens) (elements_of (handles over)) ≡ true

-- What holds of a subgroup by these elements of an overgroup of accepted factors, whichever call made it: its factor is accepted; the elements are different and
-- none is the identity; those that have a number are the subgroup that they generate; the two maps undo each other and carry identity, compose and inverse.
pub record SubgroupHolds (from : List ℕ) (over : Group) (gens : List ℕ) (s : Subgroup) (t i o : List ℕ) : Type 1 where
  pub value : s ≡ record { below = group_of []; factor = s.factor; over = over; above = group_of [] }
  pub count : s.factor.generators ≡ length gens
  pub accepted : Accepted t s.factor
  pub proper : Proper (length gens) (λ g. get_or gens g 0)
  pub members : Generated (length gens) (elements_of (handles over)) (direct from over).op (direct from over).inv (λ g. get_or gens g 0)
      (λ x. (x < elements_of (handles over)) × ¬ (get_or i x 0 ≡ appear.no_number))
  pub carried : MapsUndo (elements_of (handles over)) s.factor.elements (λ e. get_or o e 0) (λ x. get_or i x 0)
  pub homomorphic : Homomorphic s.factor.elements (compose (factor_step t s.factor) (factor_word t s.factor))
      (inverse (factor_back t s.factor) (factor_word t s.factor)) (direct from over).op (direct from over).inv (λ e. get_or o e 0)
  pub generators : {g : ℕ} → g < length gens → get_or o (factor_step t s.factor 0 g) 0 ≡ get_or gens g 0

-- What an accepted call gives: `SubgroupHolds`, in the given stretch; beyond the last element table and map are zero, the work is, and the excess of all four buffers
-- is as it was.
pub record Generates (from : List ℕ) (over : Group) (gens table : List ℕ) (start : ℕ) (work inn outw : List ℕ) (room : ℕ) (s : Subgroup)
    (t w i o : List ℕ) : Type 1 where
  pub started : Started from over gens table start work inn outw room
  pub holds : SubgroupHolds from over gens s t i o
  pub handle : s.factor ≡ record { start = start; room = room; generators = length gens; elements = s.factor.elements }
  pub beyond : {k : ℕ} → s.factor.elements * (2 * length gens + 4) ≤ k → get_or (stretch t s.factor) k 0 ≡ 0
  pub map_beyond : {e : ℕ} → s.factor.elements ≤ e → e < room → get_or o e 0 ≡ 0
  pub table_kept : t ≡ within table start (start + table_need (length gens) room) (stretch t s.factor)
  pub work_zero : w ≡ within work 0 (work_need (length gens) room) (replicate (work_need (length gens) room) 0)
  pub inn_size : length i ≡ length inn
  pub outw_size : length o ≡ length outw
  pub inn_kept : i ≡ within inn 0 (elements_of (handles over)) (take (elements_of (handles over)) i)
  pub outw_kept : o ≡ within outw 0 room (take room o)

-- When it is accepted. The generators reach N elements, numbered in order of first appearance as `elt`: these are within the room, no recorded word
-- passes 4,096, and the generators are different and none is the identity.
pub record Acceptable (op : ℕ → ℕ → ℕ) (n room N : ℕ) (gen elt : ℕ → ℕ) : Type 0 where
  pub within_room : N ≤ room
  pub short : (e : ℕ) → e < N → length (recorded n (numbered_step N elt (right_by op gen)) e) ≤ 4096
  pub proper : Proper n gen

-- "More room never changes an accepted table": the call with the marked start and room gives m, accepted with as many elements; its stretch holds the same
-- numbers as far as the first call's goes, and so do the maps. The stretches are as n generators need them.
pub record RoomierGenerates (over : Group) (n start room : ℕ) (s : Subgroup) (t i o : List ℕ) (start' room' : ℕ) (m : Subgrouping) : Type 0 where
  pub subgroup' : Subgroup
  pub table' : List ℕ
  pub work' : List ℕ
  pub inn' : List ℕ
  pub outw' : List ℕ
  pub accepted : m ≡ subgrouping (Ok subgroup') table' work' inn' outw'
  pub generators : subgroup'.factor.generators ≡ s.factor.generators
  pub elements : subgroup'.factor.elements ≡ s.factor.elements
  pub same : {k : ℕ} → k < table_need n room → get_or table' (start' + k) 0 ≡ get_or t (start + k) 0
  pub inn_same : {x : ℕ} → x < elements_of (handles over) → get_or inn' x 0 ≡ get_or i x 0
  pub outw_same : {e : ℕ} → e < room → get_or outw' e 0 ≡ get_or o e 0
