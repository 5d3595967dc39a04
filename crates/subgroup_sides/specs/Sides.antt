-- This file defines the two sides of a subgroup's value (the overgroup below · over · above, the subgroup below · factor · above), the refusals that
-- come before a map is read, and the products with further factors.
use Rattle.std.specs.Prelude.{Ok, Err}
use Rattle.egg.specs.Refusals.{numbered}
use Rattle.std.specs.Prelude.{ℕ, ◌+◌, ◌*◌, List, ◌∷◌, ◌++◌, Bool, ◌&&◌, length, leb, ltb}
use Rattle.egg.specs.declared.Factor.{Factor}
use Rattle.egg.specs.Answers.{Verdict, fine}
use Rattle.egg.specs.Table.{pick}
use Rattle.egg.specs.Scan.{refused_of}
use Rattle.egg.specs.Factor.{fits_in}
use Rattle.group_handles.specs.declared.Group.{Group}
use Rattle.group_handles.specs.Handles.{handles, elements_of, capped, all_fit, group_of}
use Rattle.subgroup_build.specs.declared.Subgroup.{Subgroup}
use Rattle.subgroup_build.specs.Answers.{Subgrouped}

-- The factors of the overgroup, the fastest digit first.
abbrev pub over_side : Subgroup → List Factor
over_side s = handles s.below ++ (handles s.over ++ handles s.above)

-- The factors of the subgroup, the fastest digit first.
abbrev pub sub_side : Subgroup → List Factor
sub_side s = handles s.below ++ (s.factor ∷ handles s.above)

-- How many elements the factors below have.
abbrev pub stride_of : Subgroup → ℕ
stride_of s = elements_of (handles s.below)

-- How many elements the part of the overgroup has that the maps speak of.
abbrev pub over_count : Subgroup → ℕ
over_count s = elements_of (handles s.over)

-- True where no handle gives 17, "the handle doesn't fit its buffer": the overgroup's handles are for one buffer, the subgroup's own factor for the
-- other.
unfoldable pub sides_fit : ℕ → ℕ → Subgroup → Bool
sides_fit from table s = fits_in table s.factor && all_fit from (over_side s)

-- Whether there are at most 8 factors on either side. The counts are tested too, because a forged count may be larger than the number of its handles.
unfoldable pub few_factors : Subgroup → Bool
few_factors s =
    leb s.below.count 8 && (leb s.over.count 8 && (leb s.above.count 8 && (leb (length (over_side s)) 8 && leb (length (sub_side s)) 8)))

-- The same by how many factors are below, over and above.
unfoldable pub few_of : ℕ → ℕ → ℕ → Bool
few_of below over above =
    leb below 8 && (leb over 8 && (leb above 8 && (leb (below + above + over) 8 && ltb (below + above) 8)))

-- True where refusal 15, "more than 8 factors, product too large", is not due on either side.
unfoldable pub sides_limited : Subgroup → Bool
sides_limited s = few_factors s && (leb (elements_of (over_side s)) 4294967295 && leb (elements_of (sub_side s)) 4294967295)

-- The same by whether there are few factors, and by how many elements there are below, in the subgroup's own factor, in those that it stands for and
-- above: each number as far as 32 bits can tell.
unfoldable pub limited_by : (few : Bool) (below within over above : ℕ) → Bool
limited_by few below within over above =
    few && (leb (capped (below * capped (over * above))) 4294967295 && leb (capped (below * capped (within * above))) 4294967295)

-- Refuses in this order: 17 for a handle that does not fit or a map of fewer than `need` places, 14 for an argument a that is not below la, 15 for a
-- side too large.
unfoldable pub admits_sides : (from table : ℕ) (s : Subgroup) (map need a la : ℕ) → Verdict
admits_sides from table s map need a la =
    pick (sides_fit from table s && leb need map)
    (pick (leb la a) (refused_of 14 0 0 0) (pick (sides_limited s) fine (refused_of 15 0 0 0)))
    (refused_of 17 0 0 0)

-- The subgroup with a group multiplied on at the left, below all the rest.
abbrev pub put_left : Group → Subgroup → Subgroup
put_left g s = record { below = group_of (handles g ++ handles s.below); factor = s.factor; over = s.over; above = s.above }

-- The subgroup with a group multiplied on at the right, above all the rest.
abbrev pub put_right : Subgroup → Group → Subgroup
put_right s g = record { below = s.below; factor = s.factor; over = s.over; above = group_of (handles s.above ++ handles g) }

-- The refusal with this number and no places.
abbrev pub refused_subgroup : ℕ → Subgrouped
refused_subgroup number = Err (numbered number 0 0 0)

-- The subgroup s, or 15 where a side is too large.
unfoldable pub if_limited : Subgroup → Subgrouped
if_limited s = pick (sides_limited s) (Ok s) (refused_subgroup 15)

-- Whether two groups have at most 8 factors together.
unfoldable pub joinable : Group → Group → Bool
joinable g h = leb g.count 8 && (leb h.count 8 && leb (length (handles g) + length (handles h)) 8)

-- The subgroup t, which comes out where g and h are put together, or 15.
unfoldable pub multiplied : Group → Group → Subgroup → Subgrouped
multiplied g h t = pick (joinable g h) (if_limited t) (refused_subgroup 15)

-- "The left and right products of the index formulas", at the left: 17 for a handle that does not fit, then 15.
unfoldable pub left_product : ℕ → ℕ → Group → Subgroup → Subgrouped
left_product from table g s =
    pick (sides_fit from table s && all_fit from (handles g)) (multiplied g s.below (put_left g s)) (refused_subgroup 17)

-- The same at the right.
unfoldable pub right_product : ℕ → ℕ → Subgroup → Group → Subgrouped
right_product from table s g =
    pick (sides_fit from table s && all_fit from (handles g)) (multiplied s.above g (put_right s g)) (refused_subgroup 17)
