-- This file defines `from_generators`: the refusals in document 01's order, then the numbering of the overgroup's products.
use Rattle.std.specs.Prelude.{ℕ, List, Bool, ◌&&◌, length, get_or, take, ltb, leb}
use Rattle.egg.specs.Answers.{Verdict, fine, numbered}
use Rattle.std.specs.Prelude.{Ok, Err}
use Rattle.egg.specs.Table.{pick}
use Rattle.egg.specs.Scan.{refused_of, and_then, scan}
use Rattle.build_lending.specs.Lending.{table_need, work_need}
use Rattle.group_handles.specs.declared.Group.{Group}
use Rattle.group_handles.specs.Handles.{handles, elements_of, all_fit, limited}
use Rattle.build_numbering.specs.Build.{renumber_in}
use Rattle.subgroup_rows.specs.Rows.{product_by}
use Rattle.factor_walk.specs.Walked.{shown}
use Rattle.subgroup_build.specs.Lent.{Subgrouping, subgrouping, maps_right, maps_back}

-- Refuses with 14 the entry at i where it is none of the overgroup's M elements; its place is the "position among these from 0, each entry of a word
-- or list counted".
abbrev pub entry_right : ℕ → List ℕ → ℕ → Verdict
entry_right M gens i = pick (leb M (get_or gens i 0)) (refused_of 14 (shown i) 0 0) fine

-- The first of these refusals.
unfoldable pub entries_right : ℕ → List ℕ → Verdict
entries_right M gens = scan (length gens) (entry_right M gens) 0

-- True where refusal 15 is not due: "more than 8 factors, product too large, an overgroup above 65,535 elements".
unfoldable pub small_enough : Group → Bool
small_enough over = limited over && leb (elements_of (handles over)) 65535

-- "Calls on handles check 17 in the handle, then 14, then 15": the refusals that come before the build's own.
unfoldable pub admits_generators : ℕ → Group → List ℕ → Verdict
admits_generators len over gens =
    pick (all_fit len (handles over))
    (and_then (entries_right (elements_of (handles over)) gens) (pick (small_enough over) fine (refused_of 15 0 0 0)))
    (refused_of 17 0 0 0)

-- Refuses, with every buffer as it was, in this order: 1 for more than 8 generators, with their count, and 4 for a room out of range or a short
-- buffer. Else builds: "Numbering in order of first appearance; two maps".
unfoldable pub generated_into : (from : List ℕ) (over : Group) (gens table : List ℕ) (start : ℕ) (work inn outw : List ℕ) (room : ℕ) → Subgrouping
generated_into from over gens table start work inn outw room =
    pick (ltb 8 (length gens)) (subgrouping (Err (numbered 1 (shown (length gens)) 0 0)) table work inn outw)
    (pick (maps_right (length table) start (length work) (length inn) (length outw) room (length gens) (elements_of (handles over)))
    (maps_back over table start work inn outw (elements_of (handles over)) (length gens) (length gens) room
    (renumber_in (table_need (length gens) room) (take (work_need (length gens) room) work) (product_by from (handles over) gens) (length gens) room
    (elements_of (handles over)) room 0))
    (subgrouping (Err (numbered 4 0 0 0)) table work inn outw))

-- Goes on where the arguments are right; a refusal touches no buffer.
abbrev pub if_subgrouping : Verdict → List ℕ → List ℕ → List ℕ → List ℕ → Subgrouping → Subgrouping
if_subgrouping (Ok _) table work inn outw m = m
if_subgrouping (Err r) table work inn outw m = subgrouping (Err r) table work inn outw

-- The whole call.
unfoldable pub from_generators : (from : List ℕ) (over : Group) (gens table : List ℕ) (start : ℕ) (work inn outw : List ℕ) (room : ℕ) → Subgrouping
from_generators from over gens table start work inn outw room =
    if_subgrouping (admits_generators (length from) over gens) table work inn outw (generated_into from over gens table start work inn outw room)
