-- `trivial`: "the trivial subgroup". subgroup_action.rs makes it of the group of one element: `Group::trivial`, the product of no factors, is its overgroup and
-- its subgroup, and each map takes the identity to the identity.
use Rattle.std.specs.Prelude.{ℕ, List, []}
use Rattle.group_handles.specs.Handles.{group_of}
use Rattle.subgroup_build.specs.Lent.{Subgrouping}
use Rattle.subgroup_build.specs.Generated.{from_generators}

-- The subgroup that no generators give in that product, with room for its one element: four entries of table, none of work, one in each map.
unfoldable pub trivial_subgroup : (table : List ℕ) (start : ℕ) (work inn outw : List ℕ) → Subgrouping
trivial_subgroup table start work inn outw = from_generators [] (group_of []) [] table start work inn outw 1
