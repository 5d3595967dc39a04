-- This file defines how a C caller passes a subgroup, as 128 numbers in a lent list, and how it gets answers about one.
use Rattle.std.specs.Prelude.{ℕ, List, [], ◌∷◌, get_or}
use Rattle.egg.specs.Table.{put_at}
use Rattle.std.specs.Prelude.{Ok, Err, Some, None}
use Rattle.egg.specs.Answers.{answer_of}
use Rattle.egg.specs.Factor.{verdict_paper}
use Rattle.capi_values.specs.Bridge.{refusal_code, made_into, Telling, telling}
use Rattle.capi_handles.specs.Product.{byte_of, handle_at, product_at}
use Rattle.subgroup_build.specs.declared.Subgroup.{Subgroup}
use Rattle.subgroup_build.specs.Answers.{Subgrouped}
use Rattle.subgroup.specs.Answers.{Within}
use Rattle.subgroup_build.specs.Lent.{Subgrouping, subgrouping}

-- The subgroup that the list holds: the handle of its factor in the first five numbers; the counts of the three products below, over and above in the
-- next three; and the handles of each, 40 numbers a product.
unfoldable pub subgroup_from : List ℕ → Subgroup
subgroup_from l = record {
  below = product_at l 8 (byte_of (get_or l 5 0));
  factor = handle_at l 0;
  over = product_at l 48 (byte_of (get_or l 6 0));
  above = product_at l 88 (byte_of (get_or l 7 0));
}

-- One number for an answer about an element of the subgroup: ""Not in the subgroup" is 4,294,967,295 in the map, which is no element number".
abbrev pub within_code : Within → ℕ
within_code (Ok (Some e)) = e.0
within_code (Ok None) = 4294967295
within_code (Err r) = refusal_code r

-- The verdict on a subgroup that was made and its element count, and after them how many generators it has; 0 where it was refused.
unfoldable pub subgrouped_into : Subgrouped → List ℕ → List ℕ
subgrouped_into (Ok s) out = put_at (made_into (Ok s.factor) out) 5 s.factor.generators
subgrouped_into (Err r) out = put_at (made_into (Err r) out) 5 0

-- What was made: its number, its verdict and counts in `out`, and the table, the work and both maps.
abbrev pub subgroup_told : Subgrouping → List ℕ → Telling
subgroup_told (subgrouping m t w i o) out = telling (verdict_paper (answer_of m)).number (subgrouped_into m out) (t ∷ w ∷ i ∷ o ∷ [])
