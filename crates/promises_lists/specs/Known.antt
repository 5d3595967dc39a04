-- Cases of the calls over lists: document 01's S3 and S3 by Z2, in one table buffer of exactly the length that is needed.
-- Assumes nothing.
use Rattle.std.specs.Prelude.{ℕ, ◌≡◌, List, [], ◌∷◌, replicate, pos, negsuc}
use Rattle.egg.specs.declared.Factor.{Factor}
use Rattle.group_handles.specs.Handles.{group_of}
use Rattle.lists.specs.Answers.{fine}
use Rattle.lists.specs.Lists.{answered, lists_refused}
use Rattle.lists_factor.specs.Each as factor
use Rattle.lists_group.specs.Each as product
use Rattle.promises_group.specs.Known.{table, s3_handle, S3, S3_Z2, nine_factors}
use Rattle.promises_lists.specs.Walls.{stopped_at}

-- The output list before each call.
abbrev pub sevens : ℕ → List ℕ
sevens k = replicate k 7

-- The handle of S3 beyond the end of the buffer.
abbrev pub fits_nothing : Factor
fits_nothing = record { start = 13; room = 6; generators = 2; elements = 6 }

pub record KnownLists : Type 0 where
  -- "S3: compose(1,3)=2, compose(3,1)=5"; "inverses 0 1 2 4 3 5"; "powi(3,2)=4, powi(3,-1)=4, powi(3,i32::MIN)=3".
  pub composed : factor.compose_each table s3_handle (1 ∷ 3 ∷ []) (3 ∷ 1 ∷ []) (sevens 2) ≡ answered fine (2 ∷ 5 ∷ [])
  pub inverted : factor.inverse_each table s3_handle (3 ∷ 4 ∷ 5 ∷ []) (sevens 3) ≡ answered fine (4 ∷ 3 ∷ 5 ∷ [])
  pub powered : factor.powi_each table s3_handle (3 ∷ 3 ∷ 3 ∷ []) (pos 2 ∷ negsuc 0 ∷ negsuc 2147483647 ∷ []) (sevens 3) ≡ answered fine (4 ∷ 4 ∷ 3 ∷ [])
  -- The first of two places that are refused, counted from 0, with the position of the argument there; nothing is written, before that place neither.
  pub first_beyond : factor.compose_each table s3_handle (1 ∷ 6 ∷ 7 ∷ []) (0 ∷ 0 ∷ 0 ∷ []) (sevens 3) ≡ stopped_at 1 14 0 (sevens 3)
  pub second_beyond : factor.compose_each table s3_handle (1 ∷ 2 ∷ 7 ∷ []) (0 ∷ 6 ∷ 0 ∷ []) (sevens 3) ≡ stopped_at 1 14 1 (sevens 3)
  pub inverse_beyond : factor.inverse_each table s3_handle (3 ∷ 4 ∷ 6 ∷ []) (sevens 3) ≡ stopped_at 2 14 0 (sevens 3)
  pub power_beyond : factor.powi_each table s3_handle (6 ∷ 6 ∷ []) (pos 0 ∷ pos 1 ∷ []) (sevens 2) ≡ stopped_at 0 14 0 (sevens 2)
  -- 17 in the handle is at the first place.
  pub forged : factor.compose_each table fits_nothing (1 ∷ 9 ∷ []) (3 ∷ 9 ∷ []) (sevens 2) ≡ stopped_at 0 17 0 (sevens 2)
  -- 4 comes "before anything else": before 17 in the handle and 14.
  pub second_short : factor.compose_each table fits_nothing (6 ∷ 6 ∷ []) (6 ∷ []) (sevens 2) ≡ answered lists_refused (sevens 2)
  pub output_long : factor.inverse_each table fits_nothing (6 ∷ []) (sevens 2) ≡ answered lists_refused (sevens 2)
  pub exponents_short : factor.powi_each table fits_nothing (6 ∷ []) [] (sevens 1) ≡ answered lists_refused (sevens 1)
  -- 4,096 places are taken, so that the handle is looked at, and one more are not.
  pub most : factor.inverse_each table fits_nothing (replicate 4096 6) (sevens 4096) ≡ stopped_at 0 17 0 (sevens 4096)
  pub too_many : factor.inverse_each table fits_nothing (replicate 4097 6) (sevens 4097) ≡ answered lists_refused (sevens 4097)
  -- "Empty lists are fine", with a handle that fits no buffer too.
  pub none_composed : factor.compose_each [] fits_nothing [] [] [] ≡ answered fine []
  pub none_inverted : factor.inverse_each [] fits_nothing [] [] ≡ answered fine []
  pub none_powered : factor.powi_each [] fits_nothing [] [] [] ≡ answered fine []
  -- "S3 by Z2: .. compose(9,7)=5; inverse(9)=10."
  pub product_composed : product.compose_each table S3_Z2 (9 ∷ []) (7 ∷ []) (sevens 1) ≡ answered fine (5 ∷ [])
  pub product_inverted : product.inverse_each table S3_Z2 (9 ∷ 0 ∷ []) (sevens 2) ≡ answered fine (10 ∷ 0 ∷ [])
  pub product_powered : product.powi_each table S3 (3 ∷ 3 ∷ 3 ∷ []) (pos 2 ∷ negsuc 0 ∷ negsuc 2147483647 ∷ []) (sevens 3) ≡ answered fine (4 ∷ 4 ∷ 3 ∷ [])
  -- 9 is 3 of S3 beside the other element of Z2. Its powers by -1, by -5 and by i32::MIN.
  pub product_powered_back : product.powi_each table S3_Z2 (9 ∷ 9 ∷ 9 ∷ []) (negsuc 0 ∷ negsuc 4 ∷ negsuc 2147483647 ∷ []) (sevens 3)
      ≡ answered fine (10 ∷ 9 ∷ 3 ∷ [])
  pub product_beyond : product.compose_each table S3_Z2 (9 ∷ 11 ∷ 12 ∷ []) (7 ∷ 12 ∷ 0 ∷ []) (sevens 3) ≡ stopped_at 1 14 1 (sevens 3)
  -- 15 is at the first place too, after 4.
  pub product_large : product.inverse_each table nine_factors (0 ∷ 0 ∷ []) (sevens 2) ≡ stopped_at 0 15 0 (sevens 2)
  pub product_unlike : product.inverse_each table nine_factors (0 ∷ 0 ∷ []) (sevens 1) ≡ answered lists_refused (sevens 1)
  pub product_none : product.compose_each [] (group_of (fits_nothing ∷ [])) [] [] [] ≡ answered fine []
