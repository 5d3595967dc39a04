-- This file states cases of overgroups that were altered, for each number by which a `from_generators` that has started may be refused, but for 6
-- (a word over 4,096 is too long to be computed here). So no shorter list of numbers than `generators_after` would do.
use Rattle.std.specs.Prelude.{ℕ, ◌≡◌, List, [], ◌∷◌, ◌++◌, length, replicate}
use Rattle.egg.specs.Factor.{Paper}
use Rattle.build_lending.specs.Lending.{table_need, work_need}
use Rattle.promises_refusals.specs.Papers.{paper}
use Rattle.group_handles.specs.declared.Group.{Group}
use Rattle.group_handles.specs.Handles.{group_of}
use Rattle.subgroup_build.specs.Generated.{from_generators}
use Rattle.promises_subgroup.specs.Answers.{subgroup_paper}

-- One row as an altered buffer may have it: any steps, each stored as one more than its number, and no steps back. The word of the element is the
-- generator g, so that `compose` with it reads the steps by g.
abbrev pub by_letter : List ℕ → ℕ → List ℕ
by_letter steps g = steps ++ replicate (length steps) 0 ++ (0 ∷ g ∷ 1 ∷ 0 ∷ [])

-- A row of an element with which nothing is composed.
abbrev pub other : List ℕ → List ℕ
other steps = by_letter steps 0

-- A product of one factor with n generators and N elements.
abbrev pub alone : ℕ → ℕ → Group
alone n N = group_of (record { start = 0; room = N; generators = n; elements = N } ∷ [])

-- What `from_generators` answers on it, in buffers that are just long enough.
abbrev pub by_generators : (from : List ℕ) (n N : ℕ) (gens : List ℕ) (room : ℕ) → Paper
by_generators from n N gens room =
    subgroup_paper (from_generators from (alone n N) gens (replicate (table_need (length gens) room) 0) 0 (replicate (work_need (length gens) room) 0) (replicate N 0)
    (replicate room 0) room)

-- Two elements, of which both lead to the second.
abbrev pub no_step_back : List ℕ
no_step_back = other (2 ∷ []) ++ by_letter (2 ∷ []) 0

-- Two elements, of which both lead to the first.
abbrev pub fixed : List ℕ
fixed = other (1 ∷ []) ++ by_letter (1 ∷ []) 0

-- Two elements: the first leads to the second, which leads nowhere.
abbrev pub unknown : List ℕ
unknown = other (2 ∷ []) ++ by_letter (0 ∷ []) 0

-- Two elements, of which each leads to the other.
abbrev pub turning : List ℕ
turning = other (2 ∷ []) ++ by_letter (1 ∷ []) 0

-- Rows 1 2 / 3 3 / 0 0 / 2 1, where 10 applies; the element 3 has the word of 1.
abbrev pub crossing : List ℕ
crossing = other (2 ∷ 3 ∷ []) ++ by_letter (4 ∷ 4 ∷ []) 0 ++ by_letter (1 ∷ 1 ∷ []) 1 ++ by_letter (3 ∷ 2 ∷ []) 0

-- Three elements, of which 1 and 2 have the same word.
abbrev pub same_twice : List ℕ
same_twice = other (2 ∷ []) ++ by_letter (1 ∷ []) 0 ++ by_letter (1 ∷ []) 0

-- Rows 1 2 / 0 3 / 4 0 / 2 4 / 3 1: 8 to 11 pass, and no group has these right steps.
abbrev pub groupless : List ℕ
groupless =
    other (2 ∷ 3 ∷ []) ++ by_letter (1 ∷ 4 ∷ []) 0 ++ by_letter (5 ∷ 1 ∷ []) 1 ++ other (3 ∷ 5 ∷ []) ++ other (4 ∷ 2 ∷ [])

-- The cases, each with its answer.
pub record AlteredCases : Type 0 where
  pub generators_5 : by_generators turning 1 2 (1 ∷ []) 1 ≡ paper 5 0 0 0
  pub generators_8 : by_generators no_step_back 1 2 (1 ∷ []) 2 ≡ paper 8 0 0 0
  pub generators_9 : by_generators fixed 1 2 (1 ∷ []) 2 ≡ paper 9 0 0 0
  pub generators_10 : by_generators crossing 2 4 (1 ∷ 2 ∷ []) 4 ≡ paper 10 1 2 2
  pub generators_11 : by_generators same_twice 1 3 (1 ∷ 2 ∷ []) 3 ≡ paper 11 1 0 0
  pub generators_12 : by_generators groupless 2 5 (1 ∷ 2 ∷ []) 5 ≡ paper 12 0 0 0
  pub generators_17 : by_generators unknown 1 2 (1 ∷ []) 2 ≡ paper 17 0 0 0
