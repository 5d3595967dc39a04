-- What a call that makes a subgroup answers.
use Rattle.std.specs.Prelude.{Result}
use Rattle.egg.specs.declared.Refusal.{Refusal}
use Rattle.subgroup_build.specs.declared.Subgroup.{Subgroup}

-- The subgroup, or the refusal.
abbrev pub Subgrouped : Type 0
Subgrouped = Result Subgroup Refusal
