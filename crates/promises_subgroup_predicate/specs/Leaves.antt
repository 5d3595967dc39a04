-- By which numbers `from_predicate` may be refused before the build starts and afterwards.
use Rattle.std.specs.Prelude.{ℕ, List, [], ◌∷◌}
use Rattle.promises_subgroup.specs.Leaves.{generators_after}

-- The numbers before `from_predicate` starts, which has no arguments for 14 and 1.
abbrev pub predicate_before : List ℕ
predicate_before = 17 ∷ 15 ∷ 4 ∷ []

-- The numbers afterwards: those of `from_generators`, and 15 for "a predicate that needs a ninth generator".
abbrev pub predicate_after : List ℕ
predicate_after = 15 ∷ generators_after
