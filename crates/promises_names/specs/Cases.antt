-- This file states cases of names, on both sides of each edge. Bytes are as they show: 83 51 is "S3", 90 50 is "Z2", and 32 120 32 is " x ".
use Rattle.std.specs.Prelude.{ℕ, ◌≡◌, List, [], ◌∷◌, replicate}
use Rattle.egg.specs.Answers.{Verdict, fine}
use Rattle.std.specs.Prelude.{Ok, Err}
use Rattle.egg.specs.Scan.{refused_of}
use Rattle.egg.specs.Answers.{numbered}
use Rattle.builder.specs.Calls.{leaving, builder_of}
use Rattle.group_handles.specs.Handles.{group_of}
use Rattle.promises_refusals.specs.Papers.{answer_of}
use Rattle.promises_group.specs.Known.{s3_handle, z2_handle, nine_factors}
use Rattle.names_values.specs.declared.Named.{Named}
use Rattle.names_values.specs.declared.NamedGroup.{NamedGroup}
use Rattle.names_values.specs.Answers.{NamedGrouped}
use Rattle.names_values.specs.Names.{name_of, unnamed_of}
use Rattle.names.specs.Making.{NamedMaking, named_making, named_composed, named_enumerates, named_begins}
use Rattle.names.specs.Products.{with_names, product_of_one, named_joins}
use Rattle.names.specs.Joined.{joined_answer, joined_leaves, joined_part}
use Rattle.promises_names.specs.Aside.{name_aside, name_made}

-- A table buffer of the length that S3 and Z2 need; only its length is looked at.
abbrev pub sixty : List ℕ
sixty = replicate 60 0

-- S3 with its name.
abbrev pub named_s3 : Named
named_s3 = record { factor = s3_handle; name = name_of (83 ∷ 51 ∷ []) }

-- Z2 with its name.
abbrev pub named_z2 : Named
named_z2 = record { factor = z2_handle; name = name_of (90 ∷ 50 ∷ []) }

-- Z2 with a recorded length that no name has.
abbrev pub forged_z2 : Named
forged_z2 = record { factor = z2_handle; name = record { bytes = replicate 32 88; length = 33 } }

-- What `product` has made. All that are made here are accepted; of a refusal there is none, and the product of no factors stands for it.
abbrev pub product_made : NamedGrouped → NamedGroup
product_made (Ok g) = g
product_made (Err r) = with_names (group_of []) []

-- The product of two factors, as `product` gives it.
abbrev pub by_two : Named → Named → NamedGroup
by_two f g = product_made (named_joins 60 (product_of_one f) (product_of_one g))

-- A call on Z2's rows, in buffers of the length that is needed, with a name of k bytes.
abbrev pub z2_named : ℕ → NamedMaking
z2_named k = named_composed (replicate 12 7) 0 (replicate 20 7) (1 ∷ 0 ∷ []) 1 2 (replicate k 88)

-- The verdict of a call with names.
abbrev pub named_answer : NamedMaking → Verdict
named_answer x = answer_of (name_aside x)

-- The cases, each with its answer.
pub record NamedCases : Type 0 where
  -- "S3" and "Z2" are shown as "S3 x Z2"; what is behind stays.
  pub two : joined_answer sixty (by_two named_s3 named_z2) 9 ≡ Ok 7
  pub two_bytes : joined_leaves sixty (by_two named_s3 named_z2) (replicate 9 7) ≡ 83 ∷ 51 ∷ 32 ∷ 120 ∷ 32 ∷ 90 ∷ 50 ∷ 7 ∷ 7 ∷ []
  pub two_part : joined_part sixty (by_two named_s3 named_z2) (replicate 9 7) ≡ 83 ∷ 51 ∷ 32 ∷ 120 ∷ 32 ∷ 90 ∷ 50 ∷ []
  -- An empty name is joined as the others are: "S3 x  x Z2".
  pub empty_between : joined_part sixty (product_made (named_joins 60 (by_two named_s3 (unnamed_of z2_handle)) (product_of_one named_z2))) (replicate 10 7)
      ≡ 83 ∷ 51 ∷ 32 ∷ 120 ∷ 32 ∷ 32 ∷ 120 ∷ 32 ∷ 90 ∷ 50 ∷ []
  pub empty_first : joined_part sixty (by_two (unnamed_of s3_handle) named_z2) (replicate 9 7) ≡ 32 ∷ 120 ∷ 32 ∷ 90 ∷ 50 ∷ []
  pub empty_last : joined_part sixty (by_two named_s3 (unnamed_of z2_handle)) (replicate 9 7) ≡ 83 ∷ 51 ∷ 32 ∷ 120 ∷ 32 ∷ []
  -- One factor has its own name, and no factor has no byte.
  pub one : joined_leaves sixty (product_of_one named_s3) (replicate 3 7) ≡ 83 ∷ 51 ∷ 7 ∷ []
  pub nothing : joined_answer sixty (with_names (group_of []) []) 0 ≡ Ok 0
  pub nothing_written : joined_leaves sixty (with_names (group_of []) []) (replicate 3 7) ≡ replicate 3 7
  -- A buffer of exactly the length, and one that is a byte shorter.
  pub exact : joined_leaves sixty (by_two named_s3 named_z2) (replicate 7 7) ≡ 83 ∷ 51 ∷ 32 ∷ 120 ∷ 32 ∷ 90 ∷ 50 ∷ []
  pub shorter : joined_answer sixty (by_two named_s3 named_z2) 6 ≡ Err (numbered 18 0 0 0)
  pub shorter_written : joined_leaves sixty (by_two named_s3 named_z2) (replicate 6 7) ≡ replicate 6 7
  pub shorter_part : joined_part sixty (by_two named_s3 named_z2) (replicate 6 7) ≡ []
  -- A recorded length of 33, or a table too short for a handle: 17, before 15 and 18. More than 8 factors: 15, before 18.
  pub forged : joined_answer sixty (by_two named_s3 forged_z2) 0 ≡ Err (numbered 17 0 0 0)
  pub no_fit : joined_answer (replicate 59 0) (by_two named_s3 named_z2) 0 ≡ Err (numbered 17 0 0 0)
  pub nine : joined_answer sixty (record { group = nine_factors; names = replicate 8 (name_of (90 ∷ 50 ∷ [])) }) 0 ≡ Err (numbered 15 0 0 0)
  pub nine_forged : joined_answer sixty (record { group = nine_factors; names = replicate 8 forged_z2.name }) 0 ≡ Err (numbered 17 0 0 0)
  -- A name of 32 bytes is kept whole; one of 33 is 18, with both buffers as they were.
  pub named_32 : named_answer (z2_named 32) ≡ fine
  pub name_32 : name_made (z2_named 32) ≡ record { bytes = replicate 32 88; length = 32 }
  pub named_33 : z2_named 33 ≡ named_making (Err (numbered 18 0 0 0)) (replicate 12 7) (replicate 20 7)
  -- After 1 and 4, and before the build: rows that skip ahead are not read.
  pub generators_first : named_answer (named_composed [] 0 [] [] 9 2 (replicate 33 88)) ≡ refused_of 1 9 0 0
  pub room_first : named_answer (named_composed (replicate 11 7) 0 (replicate 20 7) (1 ∷ 0 ∷ []) 1 2 (replicate 33 88)) ≡ refused_of 4 0 0 0
  pub rows_later : named_answer (named_composed (replicate 12 7) 0 (replicate 20 7) (2 ∷ 0 ∷ []) 1 2 (replicate 33 88)) ≡ refused_of 18 0 0 0
  -- The same of pair orders, after 2 and 3.
  pub orders_first : named_answer (named_enumerates (replicate 48 7) 0 (replicate 192 7) [] 2 6 (replicate 33 88)) ≡ refused_of 2 0 0 0
  pub order_first : named_answer (named_enumerates (replicate 48 7) 0 (replicate 192 7) (1 ∷ []) 2 6 (replicate 33 88)) ≡ refused_of 3 0 0 0
  pub orders_later : named_answer (named_enumerates (replicate 48 7) 0 (replicate 192 7) (3 ∷ []) 2 6 (replicate 33 88)) ≡ refused_of 18 0 0 0
  -- `begin` keeps the name for its factor, and with 33 bytes leaves the table as it was.
  pub begun_32 : named_begins (replicate 12 7) 0 2 1 (replicate 32 88)
      ≡ leaving (Ok (record { builder = builder_of 0 2 1 1; name = name_of (replicate 32 88) })) (replicate 12 0)
  pub begun_33 : named_begins (replicate 12 7) 0 2 1 (replicate 33 88)
      ≡ leaving (Err (numbered 18 0 0 0)) (replicate 12 7)
