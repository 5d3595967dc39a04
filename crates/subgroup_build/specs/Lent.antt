-- This file defines what a call that makes a subgroup answers and leaves in its four lent buffers, and when these are long enough.
use Rattle.std.specs.Prelude.{ℕ, ◌+◌, List, [], Bool, ◌&&◌, leb, Ok, Err}
use Rattle.egg.specs.Answers.{Made}
use Rattle.build_lending.specs.Finish.{built}
use Rattle.build_lending.specs.Lending.{table_need, work_need, lent_right, within, made_of}
use Rattle.group_handles.specs.declared.Group.{Group}
use Rattle.group_handles.specs.Handles.{group_of}
use Rattle.build_numbering.specs.Build.{Renumbering, renumbering}
use Rattle.subgroup_build.specs.Answers.{Subgrouped}

-- The subgroup's value for a factor that was made, with nothing multiplied on yet; a refusal stands.
abbrev pub subgroup_of : Group → Made → Subgrouped
subgroup_of over (Ok f) = Ok (record { below = group_of []; factor = f; over = over; above = group_of [] })
subgroup_of over (Err r) = Err r

-- The answer, then what the four buffers hold: table, work, the map from the overgroup to the subgroup, and the map from the subgroup to the
-- overgroup.
pub data Subgrouping : Type 0 where
  subgrouping : Subgrouped → List ℕ → List ℕ → List ℕ → List ℕ → Subgrouping

-- True where refusal 4 is not due: table and work are as for any build with n generators, and "a subgroup's maps need the overgroup's count and R".
unfoldable pub maps_right : (table start work inn outw room n M : ℕ) → Bool
maps_right table start work inn outw room n M = lent_right table start work room n && (leb M inn && leb room outw)

-- Puts a build's outcome back into the four buffers that its stretches were lent from. The stretches were as long as k generators and M elements of
-- the overgroup need; the factor has n generators.
abbrev pub maps_back : Group → List ℕ → ℕ → List ℕ → List ℕ → List ℕ → ℕ → ℕ → ℕ → ℕ → Renumbering → Subgrouping
maps_back over table start work inn outw M k n room (renumbering (built c t w) i o) =
    subgrouping (subgroup_of over (made_of start room n c)) (within table start (start + table_need k room) t) (within work 0 (work_need k room) w)
    (within inn 0 M i) (within outw 0 room o)
