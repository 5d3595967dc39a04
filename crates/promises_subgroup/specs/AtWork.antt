-- This file has the group of two elements, for what is computed of a subgroup by generators.
use Rattle.std.specs.Prelude.{ℕ, List, [], ◌∷◌}
use Rattle.group_handles.specs.declared.Group.{Group}
use Rattle.group_handles.specs.Handles.{group_of}

-- The stretch of the group of two elements, one row after the other: successor and predecessor plus 1, parent, last generator, length of the word,
-- inverse.
abbrev pub two_stretch : List ℕ
two_stretch = 2 ∷ 2 ∷ 0 ∷ 0 ∷ 0 ∷ 0 ∷ 1 ∷ 1 ∷ 0 ∷ 0 ∷ 1 ∷ 1 ∷ []

-- The product that has this group, at the buffer's start, for its one factor.
abbrev pub two_product : Group
two_product = group_of (record { start = 0; room = 2; generators = 1; elements = 2 } ∷ [])
