-- This file defines the questions to a subgroup by its outline: the few numbers that its handles show together. They are proved to be the questions
-- of Questions.antt; an outline is shorter to hand on than a subgroup.
use Rattle.std.specs.Prelude.{ℕ, ◌*◌, ◌≤◌, List, Bool, ◌&&◌, length, leb}
use Rattle.egg.specs.Answers.{Reached, Verdict, fine}
use Rattle.egg.specs.Table.{pick}
use Rattle.egg.specs.Scan.{refused_of}
use Rattle.egg.specs.Answers.{if_reach}
use Rattle.group_handles.specs.declared.inner.Seen.{Seen}
use Rattle.group_handles.specs.Handles.{handles, elements_of, capped}
use Rattle.subgroup_build.specs.declared.Subgroup.{Subgroup}
use Rattle.subgroup.specs.Answers.{Within}
use Rattle.subgroup.specs.declared.inner.Outline.{Outline}
use Rattle.subgroup_sides.specs.Sides.{sides_fit, few_factors, limited_by, stride_of, over_count}
use Rattle.subgroup.specs.Questions.{carried_by, carried_back_by, if_within}

-- The outline of a subgroup, with buffers of `from` and `table` numbers.
abbrev pub outline_of : ℕ → ℕ → Subgroup → Outline
outline_of from table s = record {
  fit = sides_fit from table s;
  few = few_factors s;
  below = capped (stride_of s);
  within = s.factor.elements;
  over = capped (over_count s);
  above = capped (elements_of (handles s.above));
}

-- The outline by what one pass has shown of each part.
abbrev pub outline_by : (fits few : Bool) (within : ℕ) (below over above : Seen) → Outline
outline_by fits few within below over above = record {
  fit = fits && (below.fit && (over.fit && above.fit));
  few = few;
  below = below.elements;
  within = within;
  over = over.elements;
  above = above.elements;
}

-- Every number of the outline is at most 4,294,967,296, which stands for all that is above 32 bits.
pub record Measured (o : Outline) : Type 0 where
  pub low : o.below ≤ 4294967296
  pub own : o.within ≤ 4294967296
  pub middle : o.over ≤ 4294967296
  pub high : o.above ≤ 4294967296

-- How many elements the overgroup has, as far as 32 bits can tell.
abbrev pub over_measure : Outline → ℕ
over_measure o = capped (o.below * capped (o.over * o.above))

-- How many elements the subgroup has, as far as 32 bits can tell.
abbrev pub sub_measure : Outline → ℕ
sub_measure o = capped (o.below * capped (o.within * o.above))

-- `sides_limited` by the outline: true where refusal 15 is not due.
unfoldable pub outline_limited : Outline → Bool
outline_limited o = limited_by o.few o.below o.within o.over o.above

-- `admits_sides` by the outline: 17 in the handles and for a map of fewer than `need` places, then 14 for an argument a that is not below la, then 15.
unfoldable pub admits_outline : (o : Outline) (map need a la : ℕ) → Verdict
admits_outline o map need a la =
    pick (o.fit && leb need map)
    (pick (leb la a) (refused_of 14 0 0 0) (pick (outline_limited o) fine (refused_of 15 0 0 0)))
    (refused_of 17 0 0 0)

-- `to_over_answer` by the outline.
unfoldable pub over_by_outline : Outline → List ℕ → ℕ → Reached
over_by_outline o outw e =
    if_reach (admits_outline o (length outw) o.within e (sub_measure o)) (carried_by o.below o.over o.within outw e)

-- `to_sub_answer` by the outline.
unfoldable pub back_by_outline : Outline → List ℕ → ℕ → Within
back_by_outline o inn x =
    if_within (admits_outline o (length inn) o.over x (over_measure o)) (carried_back_by o.below o.over o.within inn x)
