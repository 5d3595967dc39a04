-- This file states what the questions to a subgroup and its maps answer. Document 01: "the same goes for a subgroup's maps": they come unaltered from
-- the call that accepted it.
use Rattle.std.specs.Prelude.{ℕ, ◌≤◌, ◌<◌, ◌≡◌, true, List, length, get_or}
use Rattle.factor_laws.specs.Accepted.{reach}
use Rattle.group_handles.specs.Handles.{elements_of}
use Rattle.subgroup_build.specs.declared.Subgroup.{Subgroup}
use Rattle.subgroup.specs.Indices.{over_of, sub_of}
use Rattle.subgroup_sides.specs.Sides.{over_side, sub_side, sides_fit, sides_limited, stride_of, over_count}
use Rattle.subgroup.specs.Questions.{within_paper, to_over_answer, to_sub_answer}
use Rattle.promises_subgroup.specs.Carried.{MapsUndo}

-- The handles fit, both sides are within the limits, and the two maps are those of the subgroup's own factor.
pub record Askable (from table : ℕ) (s : Subgroup) (inn outw : List ℕ) : Type 0 where
  pub fits : sides_fit from table s ≡ true
  pub limited : sides_limited s ≡ true
  pub inn_long : over_count s ≤ length inn
  pub outw_long : s.factor.elements ≤ length outw
  pub carried : MapsUndo (over_count s) s.factor.elements (λ e. get_or outw e 0) (λ x. get_or inn x 0)

-- Then every answer is that of the index formulas, and the maps that these make undo each other.
pub record MapAnswers (from table : ℕ) (s : Subgroup) (inn outw : List ℕ) : Type 0 where
  pub outward : {e : ℕ} → e < elements_of (sub_side s)
      → to_over_answer from table s outw (record { 0 = e }) ≡ reach (over_of (stride_of s) (over_count s) s.factor.elements (λ i. get_or outw i 0) e)
  pub inward : {x : ℕ} → x < elements_of (over_side s)
      → within_paper (to_sub_answer from table s inn (record { 0 = x }))
      ≡ record { number = 0; a = sub_of (stride_of s) (over_count s) s.factor.elements (λ i. get_or inn i 0) x; b = 0; c = 0 }
  pub carried : MapsUndo (elements_of (over_side s)) (elements_of (sub_side s)) (over_of (stride_of s) (over_count s) s.factor.elements (λ i. get_or outw i 0))
      (sub_of (stride_of s) (over_count s) s.factor.elements (λ i. get_or inn i 0))
