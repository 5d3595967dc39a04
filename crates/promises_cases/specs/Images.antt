-- This file states cases of images beyond those marked P: one for each refusal of the check, what writing and reading leave, and walks. Buffers are
-- lent full of other numbers.
use Rattle.std.specs.Prelude.{ℕ, ◌≡◌, List, [], ◌∷◌, ◌++◌, replicate}
use Rattle.theory.specs.Examples.{crossed_rows}
use Rattle.egg.specs.declared.Factor.{Factor}
use Rattle.std.specs.Prelude.{Ok}
use Rattle.egg.specs.Factor.{counted_paper}
use Rattle.build_lending.specs.Lending.{refused_made, making}
use Rattle.factor.specs.Composed.{composed}
use Rattle.build_reading.specs.Reading.{composed_at}
use Rattle.promises_refusals.specs.Papers.{paper}
use Rattle.image.specs.Image.{image_number}
use Rattle.image_writing.specs.Written.{image_of}
use Rattle.image.specs.Written.{write_count, written_image}
use Rattle.image.specs.Read.{read_image}
use Rattle.image.specs.Walked.{walk_number}
use Rattle.promises_refusals.specs.Parts.{table_by}
use Rattle.promises_cases.specs.Tables.{twisted, repeated, z2_image, none_image, answer}

-- The image of N rows of n numbers.
abbrev pub imaged : List ℕ → ℕ → ℕ → List ℕ
imaged rows n N = image_of (composed_at rows n) n N

-- A factor of one generator at place 1.
abbrev pub factor_at1 : ℕ → ℕ → Factor
factor_at1 room count = record { start = 1; room = room; generators = 1; elements = count }

-- Z2 from composed rows with room 3, in a stretch that starts at 1.
abbrev pub z2_table : List ℕ
z2_table = table_by (composed (replicate 19 7) 1 (replicate 30 9) (1 ∷ 0 ∷ 0 ∷ []) 1 3)

-- An image whose head says nine generators.
abbrev pub nine : List ℕ
nine = 0 ∷ 0 ∷ 0 ∷ 4 ∷ 1 ∷ 9 ∷ 0 ∷ 1 ∷ []

-- An image of another version.
abbrev pub version_2 : List ℕ
version_2 = 0 ∷ 0 ∷ 0 ∷ 4 ∷ 2 ∷ 0 ∷ 0 ∷ 1 ∷ []

-- An image of three elements, of which two are reached.
abbrev pub two_of_three : List ℕ
two_of_three = imaged (1 ∷ 0 ∷ 0 ∷ []) 1 3

-- The cases, each with its answer.
pub record KnownImages : Type 0 where
  -- The check gives 4 for a byte of work less, and the number of each refused table; then come fewer elements than the head says, a number that skips
  -- ahead, and an element too many.
  pub work_short : image_number none_image 99 ≡ 4
  pub eight : image_number (imaged (1 ∷ 1 ∷ []) 1 2) 264 ≡ 8
  pub nine_is : image_number (imaged (0 ∷ []) 1 1) 132 ≡ 9
  pub ten : image_number (imaged twisted 2 4) 912 ≡ 10
  pub eleven : image_number (imaged repeated 2 2) 456 ≡ 11
  pub twelve : image_number (imaged crossed_rows 4 16) 9792 ≡ 12
  pub fewer : image_number two_of_three 396 ≡ 16
  pub skips : image_number (imaged (2 ∷ 0 ∷ []) 1 2) 264 ≡ 7
  pub beyond : image_number (imaged (1 ∷ []) 1 1) 132 ≡ 5
  pub version : image_number version_2 100 ≡ 16
  pub many : image_number nine 100 ≡ 1
  -- Writing leaves the excess of the buffer as it was; a short buffer is 4 and is not written to.
  pub z2_count : counted_paper (write_count z2_table (factor_at1 3 2) 14) ≡ answer 12
  pub z2_written : written_image z2_table (factor_at1 3 2) (replicate 14 5) ≡ z2_image ++ 5 ∷ 5 ∷ []
  pub z2_short : counted_paper (write_count z2_table (factor_at1 3 2) 11) ≡ paper 4 0 0 0
  pub z2_unwritten : written_image z2_table (factor_at1 3 2) (replicate 11 5) ≡ replicate 11 5
  -- A handle that fits no buffer is 17, and so is one whose step leads beyond its elements.
  pub no_handle : counted_paper (write_count z2_table (factor_at1 4 2) 14) ≡ paper 17 0 0 0
  pub step_beyond : counted_paper (write_count z2_table (factor_at1 3 1) 14) ≡ paper 17 0 0 0
  -- Reading fills each row with successors, predecessors, parent, last generator, length and inverse, and leaves everything else as it was.
  pub z2_read : read_image z2_image (replicate 14 7) 1 (replicate 21 9)
      ≡ making (Ok (factor_at1 2 2)) (7 ∷ 2 ∷ 2 ∷ 0 ∷ 0 ∷ 0 ∷ 0 ∷ 1 ∷ 1 ∷ 0 ∷ 0 ∷ 1 ∷ 1 ∷ 7 ∷ []) (replicate 20 0 ++ 9 ∷ [])
  -- The first three are refused before the build starts, the last in it.
  pub short_read : read_image z2_image (replicate 12 7) 1 (replicate 20 9) ≡ making (refused_made 4 0) (replicate 12 7) (replicate 20 9)
  pub many_read : read_image nine [] 0 [] ≡ making (refused_made 1 9) [] []
  pub version_read : read_image version_2 [] 0 [] ≡ making (refused_made 16 0) [] []
  pub fewer_read : read_image two_of_three (replicate 19 7) 0 (replicate 31 9) ≡ making (refused_made 16 0) (replicate 18 0 ++ 7 ∷ []) (replicate 30 0 ++ 9 ∷ [])
  -- Walks lead to an element, or are refused by 16, 1, 14 and 17, each added to 65,536.
  pub walks : walk_number z2_image 0 (0 ∷ 0 ∷ 0 ∷ []) ≡ 1
  pub waits : walk_number z2_image 1 [] ≡ 1
  pub walks_16 : walk_number (0 ∷ 0 ∷ 0 ∷ 8 ∷ []) 0 [] ≡ 65552
  pub walks_1 : walk_number nine 0 [] ≡ 65537
  pub walks_14 : walk_number z2_image 2 [] ≡ 65550
  pub walks_letter : walk_number z2_image 0 (0 ∷ 1 ∷ []) ≡ 65550
  pub walks_17 : walk_number (imaged (2 ∷ 0 ∷ []) 1 2) 0 (0 ∷ []) ≡ 65553
