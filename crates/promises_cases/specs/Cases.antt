-- This file states document 01's cases marked P: "The cases marked P are one statement over the definitions". Answers are on paper, by document 01's
-- numbers and places.
use Rattle.std.specs.Prelude.{◌≡◌, [], ◌∷◌, replicate, pos, negsuc}
use Rattle.theory.specs.Examples.{s3_rows, crossed_rows}
use Rattle.egg.specs.Table.{step_of}
use Rattle.egg.specs.Factor.{verdict_paper, reached_paper, counted_paper}
use Rattle.build_lending.specs.Lending.{making}
use Rattle.build_reading.specs.Reading.{composed_at}
use Rattle.factor.specs.Questions as factor
use Rattle.factor.specs.Relations.{check_answer}
use Rattle.theory.specs.Words.{walk}
use Rattle.promises_refusals.specs.Papers.{paper_of, paper}
use Rattle.group.specs.Questions as group
use Rattle.image.specs.Image.{image_number}
use Rattle.image_writing.specs.Written.{rows_of}
use Rattle.image.specs.Written.{written_image}
use Rattle.image.specs.Read.{read_image}
use Rattle.promises_refusals.specs.Parts.{made_by, table_by, element}
use Rattle.promises_cases.specs.Tables.{four_group, z2, z3, twisted, repeated, z2_image, none_image, rows, orders, factor_of, accepted_as, answer, inverses_of, both, S3, S3_Z2}

-- Each case stands under document 01's own line.
pub record KnownCases : Type 0 where
  -- "orders [2]: rows 1 2 / 0 3 / 3 0 / 2 1."
  pub square_made : made_by (orders 2 4 (2 ∷ [])) ≡ accepted_as 2 4 4
  pub square_rows : rows_of 4 (step_of (table_by (orders 2 4 (2 ∷ []))) 2) 2 0 ≡ four_group
  -- "orders [3] (S3): rows 1 2 / 0 3 / 4 0 / 5 1 / 2 5 / 3 4; inverses 0 1 2 4 3 5; word of 5 is 0,1,0."
  pub s3_made : made_by (orders 2 6 (3 ∷ [])) ≡ accepted_as 2 6 6
  pub s3_rows_lem : rows_of 6 (step_of (table_by (orders 2 6 (3 ∷ []))) 2) 2 0 ≡ s3_rows
  pub s3_inverses : inverses_of 6 (table_by (orders 2 6 (3 ∷ []))) 2 0 ≡ 0 ∷ 1 ∷ 2 ∷ 4 ∷ 3 ∷ 5 ∷ []
  pub s3_word : factor.word_part (table_by (orders 2 6 (3 ∷ []))) (factor_of 2 6 6) (element 5) (replicate 4 9) ≡ 0 ∷ 1 ∷ 0 ∷ []
  -- The same table comes from its rows.
  pub s3_composed : rows 2 6 s3_rows ≡ orders 2 6 (3 ∷ [])
  -- "S3: compose(1,3)=2, compose(3,1)=5, conjugate(1,2)=5."
  pub s3_compose : reached_paper (factor.compose_answer (table_by (rows 2 6 s3_rows)) (factor_of 2 6 6) (element 1) (element 3)) ≡ answer 2
  pub s3_other : reached_paper (factor.compose_answer (table_by (rows 2 6 s3_rows)) (factor_of 2 6 6) (element 3) (element 1)) ≡ answer 5
  pub s3_conjugate : reached_paper (factor.conjugate_answer (table_by (rows 2 6 s3_rows)) (factor_of 2 6 6) (element 1) (element 2)) ≡ answer 5
  -- "S3: powi(3,2)=4, powi(3,-1)=4, powi(3,i32::MIN)=3, period(3)=3."
  pub s3_power : reached_paper (group.powi_answer both S3 (element 3) (pos 2)) ≡ answer 4
  pub s3_minus_1 : reached_paper (group.powi_answer both S3 (element 3) (negsuc 0)) ≡ answer 4
  pub s3_least : reached_paper (group.powi_answer both S3 (element 3) (negsuc 2147483647)) ≡ answer 3
  pub s3_period : counted_paper (group.period_answer both S3 (element 3)) ≡ answer 3
  -- "S3 by Z2: 9 splits (3,1), word 0,1,2; compose(9,7)=5; inverse(9)=10."
  pub product_split : group.split_leaves both S3_Z2 (element 9) (replicate 2 8) ≡ 3 ∷ 1 ∷ []
  pub product_word : group.word_part both S3_Z2 (element 9) (replicate 4 9) ≡ 0 ∷ 1 ∷ 2 ∷ []
  pub product_compose : reached_paper (group.compose_answer both S3_Z2 (element 9) (element 7)) ≡ answer 5
  pub product_inverse : reached_paper (group.inverse_answer both S3_Z2 (element 9)) ≡ answer 10
  -- "image of Z2: 00 00 00 08 01 01 00 02 00 01 00 00": written, accepted by the check, and read back.
  pub z2_made : made_by (rows 1 2 z2) ≡ accepted_as 1 2 2
  pub z2_written : written_image (table_by (rows 1 2 z2)) (factor_of 1 2 2) (replicate 12 5) ≡ z2_image
  pub z2_checked : image_number z2_image 264 ≡ 0
  pub z2_read : read_image z2_image (replicate 12 7) 0 (replicate 20 9) ≡ rows 1 2 z2
  -- "no generators: one element, image 00 00 00 04 01 00 00 01."
  pub none_orders : made_by (orders 0 1 []) ≡ accepted_as 0 1 1
  pub none_made : rows 0 1 [] ≡ making (accepted_as 0 1 1) (replicate 4 0) []
  pub none_written : written_image (replicate 4 0) (factor_of 0 1 1) (replicate 8 5) ≡ none_image
  pub none_checked : image_number none_image 100 ≡ 0
  pub none_read : read_image none_image (replicate 4 7) 0 [] ≡ rows 0 1 []
  -- "composed rows 1 / 1: refused 8 at (0,0). Row 0 alone: 9 at (0,0)."
  pub missing : paper_of (rows 1 2 (1 ∷ 1 ∷ [])) ≡ paper 8 0 0 0
  pub stays : paper_of (rows 1 1 (0 ∷ [])) ≡ paper 9 0 0 0
  -- "rows 1 2 / 3 3 / 0 0 / 2 1: refused 10 with 1, 2, 2."
  pub inverses_differ : paper_of (rows 2 4 twisted) ≡ paper 10 1 2 2
  -- "rows 1 1 / 0 0: refused 11 at generator 1."
  pub generator_twice : paper_of (rows 2 2 repeated) ≡ paper 11 1 0 0
  -- "the crossed table .. The Rust takes it; here 12. Words 0,2,1 and 0,1,2 reach 12 and 11."
  pub crossed_refused : paper_of (rows 4 16 crossed_rows) ≡ paper 12 0 0 0
  pub crossed_first : walk (composed_at crossed_rows 4) 0 (0 ∷ 2 ∷ 1 ∷ []) ≡ 12
  pub crossed_second : walk (composed_at crossed_rows 4) 0 (0 ∷ 1 ∷ 2 ∷ []) ≡ 11
  -- "Z3, rows 1 / 2 / 0, checked against no orders: 13 at (0,0,0)."
  pub z3_made : made_by (rows 1 3 z3) ≡ accepted_as 1 3 3
  pub z3_orders : verdict_paper (check_answer (table_by (rows 1 3 z3)) (factor_of 1 3 3) []) ≡ paper 13 0 0 0
