-- This file defines the questions to a subgroup and its two maps: `outw` from the subgroup to the overgroup, `inn` from the overgroup to the
-- subgroup. Document 01: "Calls on handles check 17 in the handle, then 14, then 15, .. then 17 in what they read".
use Rattle.std.specs.Prelude.{ℕ, ◌/◌, ◌%◌, List, length, get_or, eqb, ltb}
use Rattle.egg.specs.declared.GroupElementId.{GroupElementId}
use Rattle.egg.specs.declared.GeneratorId.{GeneratorId}
use Rattle.egg.specs.Answers.{Counted, Reached, Verdict, fine}
use Rattle.std.specs.Prelude.{Ok, Err, Some, None}
use Rattle.egg.specs.Table.{pick}
use Rattle.egg.specs.Scan.{refused_of}
use Rattle.egg.specs.Factor.{Paper, refusal_paper, numbered, refused_reach}
use Rattle.egg.specs.Answers.{if_reach, if_count, on_reached}
use Rattle.group_handles.specs.declared.Group.{Group}
use Rattle.group_handles.specs.Answers.{Grouped}
use Rattle.group_handles.specs.Handles.{elements_of, generators_of, capped, group_of}
use Rattle.build_numbering.specs.Renumber.{no_number}
use Rattle.subgroup_build.specs.declared.Subgroup.{Subgroup}
use Rattle.subgroup.specs.Answers.{Within}
use Rattle.subgroup.specs.Indices.{over_of, sub_of}
use Rattle.subgroup_sides.specs.Sides.{over_side, sub_side, stride_of, over_count, sides_fit, sides_limited, admits_sides}
use Rattle.subgroup_sides.specs.Generators.{side_generator}

-- Document 01's number and places for each case of the answer. "A definition sets out this paper's number and values for each of its cases"; ""Not in
-- the subgroup" is 4,294,967,295 in the map, which is no element number".
abbrev pub within_paper : Within → Paper
within_paper (Ok (Some e)) = record { number = 0; a = e.0; b = 0; c = 0 }
within_paper (Ok None) = record { number = 0; a = no_number; b = 0; c = 0 }
within_paper (Err r) = refusal_paper r

-- The refusal with this number and no places.
abbrev pub refused_within : ℕ → Within
refused_within k = Err (numbered k 0 0 0)

-- Goes on where there is no refusal.
abbrev pub if_within : Verdict → Within → Within
if_within (Ok _) x = x
if_within (Err r) x = Err r

-- Carries the subgroup's e to the overgroup, by the number that the map has for its part within; 17 where that is no element there. `stride` elements
-- are below, and the part within has M elements in the overgroup and N in the subgroup.
abbrev pub carried_by : (stride M N : ℕ) (outw : List ℕ) (e : ℕ) → Reached
carried_by stride M N outw e =
    pick (ltb (get_or outw (e / stride % N) 0) M) (Ok (record { 0 = over_of stride M N (λ i. get_or outw i 0) e })) (refused_reach 17 0)

-- The same by the subgroup's own numbers.
unfoldable pub carried_over : Subgroup → List ℕ → ℕ → Reached
carried_over s outw e = carried_by (stride_of s) (over_count s) s.factor.elements outw e

-- What `to_overgroup` answers: the refusals, then the element.
unfoldable pub to_over_answer : (from table : ℕ) (s : Subgroup) (outw : List ℕ) (e : GroupElementId) → Reached
to_over_answer from table s outw e =
    if_reach (admits_sides from table s (length outw) s.factor.elements e.0 (elements_of (sub_side s))) (carried_over s outw e.0)

-- Carries the overgroup's x back to the subgroup. What is not in the subgroup has an answer of its own; 17 where the map holds no element.
abbrev pub carried_back_by : (stride M N : ℕ) (inn : List ℕ) (x : ℕ) → Within
carried_back_by stride M N inn x =
    pick (eqb (get_or inn (x / stride % M) 0) no_number) (Ok None)
    (pick (ltb (get_or inn (x / stride % M) 0) N) (Ok (Some (record { 0 = sub_of stride M N (λ i. get_or inn i 0) x }))) (refused_within 17))

-- The same by the subgroup's own numbers.
unfoldable pub carried_back : Subgroup → List ℕ → ℕ → Within
carried_back s inn x = carried_back_by (stride_of s) (over_count s) s.factor.elements inn x

-- What `to_subgroup` answers: the refusals, then the element. The map needs a place for each element of the overgroup's part, counted as far as 32
-- bits can tell: an overgroup of more elements is 15.
unfoldable pub to_sub_answer : (from table : ℕ) (s : Subgroup) (inn : List ℕ) (x : GroupElementId) → Within
to_sub_answer from table s inn x =
    if_within (admits_sides from table s (length inn) (capped (over_count s)) x.0 (elements_of (over_side s))) (carried_back s inn x.0)

-- What `generator` answers: the subgroup's generator g as an element of the subgroup's product, carried to the overgroup.
unfoldable pub generator_answer : (from table : List ℕ) (s : Subgroup) (outw : List ℕ) (g : GeneratorId) → Reached
generator_answer from table s outw g =
    if_reach (admits_sides (length from) (length table) s (length outw) s.factor.elements g.0 (generators_of (sub_side s)))
    (on_reached (side_generator from table s g.0) (λ e. carried_over s outw e))

-- The questions that read neither map nor table, and have no argument: "17 in the handle, .. then 15".
unfoldable pub admits_handles : (from table : ℕ) (s : Subgroup) → Verdict
admits_handles from table s = pick (sides_fit from table s) (pick (sides_limited s) fine (refused_of 15 0 0 0)) (refused_of 17 0 0 0)

-- How many generators `generator` can be asked for: those below, the factor's own, and those above. (005 has them as the length of `subgroup_generators`.)
unfoldable pub generator_count_answer : (from table : ℕ) (s : Subgroup) → Counted
generator_count_answer from table s = if_count (admits_handles from table s) (Ok (generators_of (sub_side s)))

-- The product where there is no refusal.
abbrev pub if_grouped : Verdict → Group → Grouped
if_grouped (Ok _) g = Ok g
if_grouped (Err r) g = Err r

-- `overgroup`, "the original group that this is a subgroup of": the factors below, those that the subgroup stands for, and those above.
unfoldable pub overgroup_answer : (from table : ℕ) (s : Subgroup) → Grouped
overgroup_answer from table s = if_grouped (admits_handles from table s) (group_of (over_side s))
