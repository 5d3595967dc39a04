-- Overgroups that were altered, for each number by which a `from_predicate` that has started may be refused, but for 6 (a word over 4,096 is too long to be
-- computed here). So no shorter list of numbers than `predicate_after` would do.
use Rattle.std.specs.Prelude.{ℕ, suc, ◌+◌, ◌%◌, ◌≡◌, List, [], ◌∷◌, ◌++◌, replicate}
use Rattle.egg.specs.Factor.{Paper}
use Rattle.build_lending.specs.Lending.{table_need, work_need}
use Rattle.promises_refusals.specs.Papers.{paper}
use Rattle.subgroup_predicate.specs.Predicate.{from_predicate}
use Rattle.promises_subgroup.specs.Answers.{subgroup_paper}
use Rattle.promises_subgroup.specs.AlteredCases.{by_letter, other, alone, no_step_back, fixed, unknown, turning, crossing, same_twice, groupless}

-- What `from_predicate` answers on one factor, in buffers that are just long enough.
abbrev pub by_predicate : (from : List ℕ) (n N : ℕ) (members : List ℕ) (room : ℕ) → Paper
by_predicate from n N members room =
    subgroup_paper (from_predicate from (alone n N) members (replicate (table_need 8 room) 0) 0 (replicate (work_need 8 room) 0) (replicate N 0) (replicate room 0) room)

-- The steps from e in the numbers modulo 9, by 1 to 8.
abbrev pub modulo : ℕ → List ℕ
modulo e =
    suc ((e + 1) % 9) ∷ suc ((e + 2) % 9) ∷ suc ((e + 3) % 9) ∷ suc ((e + 4) % 9) ∷ suc ((e + 5) % 9) ∷ suc ((e + 6) % 9) ∷ suc ((e + 7) % 9) ∷ suc ((e + 8) % 9) ∷ []

-- The numbers modulo 9, and nine further elements: the first eight have the words of 1 to 8, and the last that of 1.
abbrev pub eighteen : List ℕ
eighteen =
    other (modulo 0) ++ other (modulo 1) ++ other (modulo 2) ++ other (modulo 3) ++ other (modulo 4) ++ other (modulo 5) ++ other (modulo 6)
    ++ other (modulo 7) ++ other (modulo 8) ++ by_letter (modulo 0) 0 ++ by_letter (modulo 0) 1 ++ by_letter (modulo 0) 2 ++ by_letter (modulo 0) 3
    ++ by_letter (modulo 0) 4 ++ by_letter (modulo 0) 5 ++ by_letter (modulo 0) 6 ++ by_letter (modulo 0) 7 ++ by_letter (modulo 0) 0

pub record ToldCases : Type 0 where
  pub predicate_5 : by_predicate turning 1 2 (0 ∷ 1 ∷ []) 1 ≡ paper 5 0 0 0
  pub predicate_8 : by_predicate no_step_back 1 2 (0 ∷ 1 ∷ []) 2 ≡ paper 8 0 0 0
  pub predicate_9 : by_predicate fixed 1 2 (0 ∷ 1 ∷ []) 2 ≡ paper 9 0 0 0
  pub predicate_10 : by_predicate crossing 2 4 (0 ∷ 0 ∷ 1 ∷ 1 ∷ []) 4 ≡ paper 10 2 1 1
  pub predicate_11 : by_predicate same_twice 1 3 (0 ∷ 1 ∷ 1 ∷ []) 3 ≡ paper 11 1 0 0
  pub predicate_12 : by_predicate groupless 2 5 (0 ∷ 1 ∷ 1 ∷ 0 ∷ 0 ∷ []) 5 ≡ paper 12 0 0 0
  pub predicate_15 : by_predicate eighteen 8 18 (replicate 9 0 ++ replicate 9 1) 9 ≡ paper 15 0 0 0
  pub predicate_17 : by_predicate unknown 1 2 (0 ∷ 1 ∷ []) 2 ≡ paper 17 0 0 0
