-- This file defines `from_subgroup_predicate` of subgroup_action.rs: the subgroup that a byte for each element of the overgroup tells. It starts from
-- the subgroup of one element and goes through the elements of the overgroup, as `chooses` of `subgroup_predicate_choices` says. Document 01: "over a
-- lent byte per element, nonzero for a member (rebuilt as 005 does, the first refusal standing; stretches as for n = 8, the unused part zero)".
use Rattle.std.specs.Prelude.{ℕ, ◌&&◌, List, [], length, get_or, take, leb, Err}
use Rattle.egg.specs.Answers.{Reached, Verdict, fine, numbered}
use Rattle.egg.specs.Table.{pick}
use Rattle.egg.specs.Scan.{refused_of}
use Rattle.build_lending.specs.Lending.{table_need, work_need}
use Rattle.group_handles.specs.declared.Group.{Group}
use Rattle.group_handles.specs.Handles.{handles, elements_of, all_fit}
use Rattle.group_digits.specs.Digits.{composes}
use Rattle.subgroup_build.specs.Lent.{Subgrouping, subgrouping, maps_right, maps_back}
use Rattle.subgroup_build.specs.Generated.{small_enough, if_subgrouping}
use Rattle.subgroup_predicate_choices.specs.Choices.{Picked, picked, chooses, again_in}

-- The whole choice in its own stretches, which starts from the subgroup of one element. `source` is the overgroup's product, M how many elements it
-- has, K how many places the subgroup's map has, and `byte` the predicate.
abbrev pub predicate_in : (size : ℕ) (w : List ℕ) (source : ℕ → ℕ → Reached) (room M K : ℕ) (byte : ℕ → ℕ) → Picked
predicate_in size w source room M K byte = chooses M (again_in size source room M K) byte 0 [] (again_in size source room M K [] w)

-- "Calls on handles check 17 in the handle, .. then 15": the refusals that come before 4.
unfoldable pub admits_over : ℕ → Group → Verdict
admits_over len over = pick (all_fit len (handles over)) (pick (small_enough over) fine (refused_of 15 0 0 0)) (refused_of 17 0 0 0)

-- Puts the outcome back into the four buffers: "stretches as for n = 8, the unused part zero".
abbrev pub told_back : Group → List ℕ → ℕ → List ℕ → List ℕ → List ℕ → ℕ → ℕ → Picked → Subgrouping
told_back over table start work inn outw M room (picked gens r) = maps_back over table start work inn outw M 8 (length gens) room r

-- Refuses with 4, with every buffer as it was, a room out of range or a short buffer, and a predicate of fewer bytes than the overgroup has elements.
-- Else builds.
unfoldable pub told_into : (from : List ℕ) (over : Group) (members table : List ℕ) (start : ℕ) (work inn outw : List ℕ) (room : ℕ) → Subgrouping
told_into from over members table start work inn outw room =
    pick (maps_right (length table) start (length work) (length inn) (length outw) room 8 (elements_of (handles over))
    && leb (elements_of (handles over)) (length members))
    (told_back over table start work inn outw (elements_of (handles over)) room
    (predicate_in (table_need 8 room) (take (work_need 8 room) work) (composes from (handles over)) room (elements_of (handles over)) room
    (λ x. get_or members x 0)))
    (subgrouping (Err (numbered 4 0 0 0)) table work inn outw)

-- The whole call.
unfoldable pub from_predicate : (from : List ℕ) (over : Group) (members table : List ℕ) (start : ℕ) (work inn outw : List ℕ) (room : ℕ) → Subgrouping
from_predicate from over members table start work inn outw room =
    if_subgrouping (admits_over (length from) over) table work inn outw (told_into from over members table start work inn outw room)
