-- This file states cases of document 01's S3 by Z2, and of S3 by itself, in one table buffer of exactly the length that is needed; both are built
-- from composed rows. What document 01 marks P of them is in `KnownCases` (crate promises_cases); here is the rest.
use Rattle.std.specs.Prelude.{ℕ, ◌/◌, ◌%◌, ◌≡◌, List, [], ◌∷◌, ◌++◌, replicate, set}
use Rattle.theory.specs.Examples.{s3_rows}
use Rattle.egg.specs.declared.Factor.{Factor}
use Rattle.egg.specs.declared.GeneratorId.{GeneratorId}
use Rattle.egg.specs.Refusals.{numbered}
use Rattle.std.specs.Prelude.{Ok, Err}
use Rattle.egg.specs.Table.{step_of}
use Rattle.egg.specs.Factor.{refused_reach}
use Rattle.build_lending.specs.Lending.{making}
use Rattle.factor.specs.Composed.{composed}
use Rattle.factor_laws.specs.Accepted.{reach}
use Rattle.group_handles.specs.declared.Group.{Group}
use Rattle.promises_refusals.specs.Parts.{made_by, table_by, element}
use Rattle.promises_group.specs.Products.{listed}
use Rattle.group_handles.specs.Handles.{group_of, joins}
use Rattle.group_flatten.specs.Flat.{flat}
use Rattle.group.specs.Questions.{count_answer, generators_answer, generator_answer, step_answer, project_answer, inject_answer, split_answer, split_leaves, join_answer}
use Rattle.group.specs.Questions.{compose_answer, conjugate_answer, period_answer, length_answer, write_answer, written}

-- The generator with this number.
abbrev pub letter : ℕ → GeneratorId
letter x = record { 0 = x }

-- The table buffer: S3 in the first 48 numbers, Z2 in the 12 after them.
abbrev pub table : List ℕ
table =
    table_by (composed (table_by (composed (replicate 60 7) 0 (replicate 192 9) s3_rows 2 6)) 48 (replicate 20 9) (1 ∷ 0 ∷ []) 1 2)

-- The handle of S3.
abbrev pub s3_handle : Factor
s3_handle = record { start = 0; room = 6; generators = 2; elements = 6 }

-- The handle of Z2.
abbrev pub z2_handle : Factor
z2_handle = record { start = 48; room = 2; generators = 1; elements = 2 }

-- S3 as a product of one factor.
abbrev pub S3 : Group
S3 = group_of (s3_handle ∷ [])

-- The product S3 by Z2.
abbrev pub S3_Z2 : Group
S3_Z2 = group_of (s3_handle ∷ z2_handle ∷ [])

-- The product Z2 by Z2: one factor may be taken twice.
abbrev pub Z2_Z2 : Group
Z2_Z2 = group_of (z2_handle ∷ z2_handle ∷ [])

-- A value that says it has more than 8 factors.
abbrev pub nine_factors : Group
nine_factors = record { factors = replicate 8 z2_handle; count = 9 }

-- A lent list of three numbers.
abbrev pub three_numbers : List ℕ
three_numbers = replicate 3 8

-- The cases, each with its answer.
pub record KnownProducts : Type 0 where
  pub joined : joins 60 S3 (group_of (z2_handle ∷ [])) ≡ Ok S3_Z2
  pub counted : count_answer table S3_Z2 ≡ Ok 12
  pub generators : generators_answer table S3_Z2 ≡ Ok 3
  pub generator_2 : generator_answer table S3_Z2 (letter 2) ≡ reach 6
  pub stepped : step_answer table S3_Z2 (element 9) (letter 2) ≡ reach 3
  -- The digits and the word in longer lists, whose rest stays as it was.
  pub split_9 : split_leaves table S3_Z2 (element 9) three_numbers ≡ 3 ∷ 1 ∷ 8 ∷ []
  pub split_counts : split_answer table S3_Z2 (element 9) 3 ≡ Ok 2
  pub join_9 : join_answer table S3_Z2 (3 ∷ 1 ∷ 5 ∷ []) ≡ reach 9
  pub word_9 : written table S3_Z2 (element 9) (9 ∷ 9 ∷ 9 ∷ 9 ∷ []) ≡ 0 ∷ 1 ∷ 2 ∷ 9 ∷ []
  pub length_9 : length_answer table S3_Z2 (element 9) ≡ Ok 3
  pub conjugate_7_8 : conjugate_answer table S3_Z2 (element 7) (element 8) ≡ reach 11
  pub period_9 : period_answer table S3_Z2 (element 9) ≡ Ok 6
  pub project_9 : project_answer table S3_Z2 0 (element 9) ≡ reach 3
  pub inject_1 : inject_answer table S3_Z2 1 (element 1) ≡ reach 6
  pub period_0 : period_answer table S3_Z2 (element 0) ≡ Ok 1
  -- "`flatten` keeps product numbers, so S3 by Z2 is 7 at (0,2) with 6 ..; one factor or none is copied by the same reading, the empty product giving the
  -- one_element table."
  pub flat_both : made_by (flat table S3_Z2 (replicate 120 7) 0 (replicate 792 7) 12) ≡ Err (numbered 7 0 2 6)
  pub flat_one : made_by (flat table S3 (replicate 48 7) 0 (replicate 192 7) 6) ≡ Ok s3_handle
  pub flat_none : made_by (flat table (group_of []) (replicate 4 7) 0 [] 1) ≡ Ok (record { start = 0; room = 1; generators = 0; elements = 1 })
  -- Z2 by Z2 follows the numbering rule, and gives the rows of orders [2]: "1 2 / 0 3 / 3 0 / 2 1".
  pub flat_square : made_by (flat table Z2_Z2 (replicate 32 7) 0 (replicate 128 7) 4)
      ≡ Ok (record { start = 0; room = 4; generators = 2; elements = 4 })
  pub square_rows : listed 8 (λ i. step_of (table_by (flat table Z2_Z2 (replicate 32 7) 0 (replicate 128 7) 4)) 2 (i / 2) (i % 2)) ≡ 1 ∷ 2 ∷ 0 ∷ 3 ∷ 3 ∷ 0 ∷ 2 ∷ 1 ∷ []
  -- With a step of the identity missing in what is read, 17, and both needed stretches are zero, the excess as it was.
  pub flat_missing : flat (set table 0 0) S3 (replicate 49 7) 0 (replicate 193 7) 6
      ≡ making (Err (numbered 17 0 0 0)) (replicate 48 0 ++ 7 ∷ []) (replicate 192 0 ++ 7 ∷ [])
  -- In Z2 with a step from 1 to 1 no power of 1 is the identity.
  pub never_home : period_answer (set table 54 2) (group_of (z2_handle ∷ [])) (element 1) ≡ Err (numbered 17 0 0 0)
  -- Nine generators are refused, with their count, before any buffer is looked at.
  pub nine_generators : made_by (flat table (group_of (s3_handle ∷ s3_handle ∷ s3_handle ∷ s3_handle ∷ z2_handle ∷ [])) [] 0 [] 0) ≡ Err (numbered 1 9 0 0)
  -- Refusals come in their order.
  pub first_beyond : compose_answer table S3_Z2 (element 12) (element 12) ≡ refused_reach 14 0
  pub second_beyond : compose_answer table S3_Z2 (element 11) (element 12) ≡ refused_reach 14 1
  pub generator_beyond : step_answer table S3_Z2 (element 11) (letter 3) ≡ refused_reach 14 1
  pub factor_beyond : project_answer table S3_Z2 2 (element 0) ≡ refused_reach 14 0
  pub digit_beyond : join_answer table S3_Z2 (0 ∷ 2 ∷ []) ≡ refused_reach 14 1
  pub digits_short : join_answer table S3_Z2 (5 ∷ []) ≡ refused_reach 4 0
  pub list_short : split_answer table S3_Z2 (element 9) 1 ≡ Err (numbered 4 0 0 0)
  pub word_short : write_answer table S3_Z2 (element 9) 2 ≡ Err (numbered 4 0 0 0)
  pub nine_beyond : step_answer table nine_factors (element 0) (letter 8) ≡ refused_reach 14 1
  pub nine_factors_lem : step_answer table nine_factors (element 0) (letter 7) ≡ refused_reach 15 0
  pub nine_joined : joins 60 nine_factors S3 ≡ Err (numbered 15 0 0 0)
  pub handle_first : compose_answer (replicate 59 0) S3_Z2 (element 12) (element 12) ≡ refused_reach 17 0
