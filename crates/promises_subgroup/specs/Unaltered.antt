-- This file defines what it is for a subgroup that its maps and stretches were left alone. Document 01: "its handle and its needed stretch of table
-- come unaltered from the call that accepted it, in a product for each factor; the same goes for a subgroup's maps".
use Rattle.std.specs.Prelude.{ℕ, ◌≤◌, ◌<◌, ◌≡◌, true, List, [], ◌∷◌, length, get_or}
use Rattle.egg.specs.declared.Factor.{Factor}
use Rattle.egg.specs.declared.GroupElementId.{GroupElementId}
use Rattle.egg.specs.Factor.{stretch}
use Rattle.group_handles.specs.declared.Group.{Group}
use Rattle.group_handles.specs.Handles.{handles, all_fit}
use Rattle.subgroup_build.specs.declared.Subgroup.{Subgroup}
use Rattle.subgroup_sides.specs.Sides.{sides_fit, left_product, right_product, over_count}
use Rattle.subgroup.specs.Questions.{to_over_answer, to_sub_answer}
use Rattle.promises_subgroup.specs.Asked.{Askable}

-- What the maps' questions about a subgroup s need, the same in the marked buffers as in the others: the handles fit, and the needed part of each map holds the
-- same numbers. Nothing is asked of what else the buffers hold, nor of what the numbers are. (Of the buffers of the handles only the lengths count.)
pub record SameMaps (from from' table table' : ℕ) (s : Subgroup) (inn inn' outw outw' : List ℕ) : Type 0 where
  pub fits : sides_fit from table s ≡ true
  pub fits' : sides_fit from' table' s ≡ true
  pub inn_long : over_count s ≤ length inn
  pub inn_long' : over_count s ≤ length inn'
  pub inn_same : {x : ℕ} → x < over_count s → get_or inn' x 0 ≡ get_or inn x 0
  pub outw_long : s.factor.elements ≤ length outw
  pub outw_long' : s.factor.elements ≤ length outw'
  pub outw_same : {e : ℕ} → e < s.factor.elements → get_or outw' e 0 ≡ get_or outw e 0

-- Then every answer is the same, refusals too, and what is known of it is known there.
pub record UnalteredMaps (from from' table table' : ℕ) (s : Subgroup) (inn inn' outw outw' : List ℕ) : Type 0 where
  pub outward : (e : GroupElementId) → to_over_answer from' table' s outw' e ≡ to_over_answer from table s outw e
  pub inward : (x : GroupElementId) → to_sub_answer from' table' s inn' x ≡ to_sub_answer from table s inn x
  pub lefts : (g : Group) → all_fit from' (handles g) ≡ all_fit from (handles g) → left_product from' table' g s ≡ left_product from table g s
  pub rights : (g : Group) → all_fit from' (handles g) ≡ all_fit from (handles g) → right_product from' table' s g ≡ right_product from table s g
  pub known : Askable from table s inn outw → Askable from' table' s inn' outw'

-- The stretch of each of these factors holds the same numbers in both buffers.
pub data EachSame (t t' : List ℕ) : List Factor → Type 0 where
  all : EachSame t t' []
  also : {h : Factor} {hs : List Factor} → stretch t' h ≡ stretch t h → EachSame t t' hs → EachSame t t' (h ∷ hs)

-- The question for a generator reads the stretches besides: that of the subgroup's own factor, and those of the factors below and above.
pub record SameStretches (from from' table table' : List ℕ) (s : Subgroup) : Type 0 where
  pub own : stretch table' s.factor ≡ stretch table s.factor
  pub below : EachSame from from' (handles s.below)
  pub above : EachSame from from' (handles s.above)
