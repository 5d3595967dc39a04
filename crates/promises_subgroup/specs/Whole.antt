-- What `overgroup`, `generator_count` and `trivial` answer.
use Rattle.std.specs.Prelude.{ℕ, ◌+◌, ◌≡◌, List, [], ◌∷◌}
use Rattle.std.specs.Prelude.{Ok, Err}
use Rattle.egg.specs.Answers.{numbered}
use Rattle.build_lending.specs.Lending.{within}
use Rattle.group_handles.specs.Handles.{group_of, generators_of}
use Rattle.subgroup_build.specs.declared.Subgroup.{Subgroup}
use Rattle.subgroup_build.specs.Lent.{subgroup_of, subgrouping}
use Rattle.subgroup_sides.specs.Sides.{over_side, sub_side}
use Rattle.subgroup.specs.Questions.{overgroup_answer, generator_count_answer}
use Rattle.subgroup.specs.Trivial.{trivial_subgroup}
use Rattle.promises_subgroup.specs.Answers.{EnoughWithMaps}

-- Of a subgroup whose handles fit and whose sides are within the limits: the overgroup is the product of the factors below, over and above, and the generators are
-- those of the subgroup's own factors, with what is multiplied on.
pub record HandlesAnswer (from table : ℕ) (s : Subgroup) : Type 0 where
  pub overgroups : overgroup_answer from table s ≡ Ok (group_of (over_side s))
  pub counted : generator_count_answer from table s ≡ Ok (generators_of (sub_side s))

-- `trivial`: 4 where a buffer is short, with every buffer as it was; else one element, no generators, and in each map the identity for the identity.
pub record TrivialAnswers (table : List ℕ) (start : ℕ) (work inn outw : List ℕ) : Type 0 where
  pub short : ¬ (EnoughWithMaps (group_of []) 0 table start work inn outw 1)
      → trivial_subgroup table start work inn outw ≡ subgrouping (Err (numbered 4 0 0 0)) table work inn outw
  pub made : EnoughWithMaps (group_of []) 0 table start work inn outw 1
      → trivial_subgroup table start work inn outw
      ≡ subgrouping
      (subgroup_of (group_of []) (Ok (record { start = start; room = 1; generators = 0; elements = 1 })))
      (within table start (start + 4) (0 ∷ 0 ∷ 0 ∷ 0 ∷ [])) (within work 0 0 []) (within inn 0 1 (0 ∷ [])) (within outw 0 1 (0 ∷ []))
