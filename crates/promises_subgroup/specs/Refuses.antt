-- This file states by which numbers the questions about a subgroup and the products with it are refused, on every input: whatever the handles, the
-- counts, the buffers, the maps and the arguments are. Document 01: "Calls on handles check 17 in the handle, then 14, then 15, then 1 to 4, then 17
-- in what they read". "A refused question writes nothing": none of these calls is lent a buffer that it may write to.
use Rattle.std.specs.Prelude.{ℕ, ◌≡◌, List, [], ◌∷◌, length, Err}
use Rattle.egg.specs.declared.Refusal.{Refusal}
use Rattle.egg.specs.Answers.{answer_of}
use Rattle.egg.specs.declared.GroupElementId.{GroupElementId}
use Rattle.egg.specs.declared.GeneratorId.{GeneratorId}
use Rattle.build_checks_laws.specs.Numbers.{RefusalIn}
use Rattle.factor_laws.specs.Refuses.{VerdictIn, ReachedIn, CountedIn}
use Rattle.group_handles.specs.declared.Group.{Group}
use Rattle.subgroup_build.specs.declared.Subgroup.{Subgroup}
use Rattle.subgroup.specs.Answers.{Within}
use Rattle.subgroup_sides.specs.Sides.{left_product, right_product}
use Rattle.subgroup.specs.Questions.{to_over_answer, to_sub_answer, generator_answer, generator_count_answer, overgroup_answer}

-- If the question is refused, then by one of these numbers. "Not in the subgroup" is an answer, and no refusal.
pub record WithinIn (l : List ℕ) (x : Within) : Type 0 where
  pub of : (r : Refusal) → x ≡ Err r → RefusalIn l r

-- Each call on the subgroup s, with the only numbers by which it is ever refused.
pub record SubgroupRefuses (from table : List ℕ) (s : Subgroup) : Type 0 where
  pub lefts : (g : Group) → VerdictIn (15 ∷ 17 ∷ []) (answer_of (left_product (length from) (length table) g s))
  pub rights : (g : Group) → VerdictIn (15 ∷ 17 ∷ []) (answer_of (right_product (length from) (length table) s g))
  pub outward : (outw : List ℕ) (e : GroupElementId) → ReachedIn (14 ∷ 15 ∷ 17 ∷ []) (to_over_answer (length from) (length table) s outw e)
  pub inward : (inn : List ℕ) (x : GroupElementId) → WithinIn (14 ∷ 15 ∷ 17 ∷ []) (to_sub_answer (length from) (length table) s inn x)
  pub generators : (outw : List ℕ) (g : GeneratorId) → ReachedIn (14 ∷ 15 ∷ 17 ∷ []) (generator_answer from table s outw g)
  pub counted : CountedIn (15 ∷ 17 ∷ []) (generator_count_answer (length from) (length table) s)
  pub overgroups : VerdictIn (15 ∷ 17 ∷ []) (answer_of (overgroup_answer (length from) (length table) s))
