-- This file defines the index formulas of a product in which a subgroup stands for some of the factors. They are `factor_indices`,
-- `unfactor_indices`, `subgroup_to_overgroup` and `overgroup_to_subgroup` of subgroup_action.rs. Document 01: "the left and right products of the
-- index formulas".
use Rattle.std.specs.Prelude.{ℕ, ◌+◌, ◌*◌, ◌/◌, ◌%◌, eqb}
use Rattle.egg.specs.Table.{pick}
use Rattle.build_numbering.specs.Renumber.{no_number}

-- An element by its three parts: in the factors below, in those that the subgroup stands for, and in those above.
pub record Indices : Type 0 where
  pub below : ℕ
  pub within : ℕ
  pub above : ℕ

-- Splits e into its parts, where `stride` elements are below and the part within has `count`.
abbrev pub factor_indices : ℕ → ℕ → ℕ → Indices
factor_indices e stride count = record { below = e % stride; within = e / stride % count; above = e / stride / count }

-- Puts the parts together again.
abbrev pub unfactor_indices : Indices → ℕ → ℕ → ℕ
unfactor_indices i stride count = (i.above * count + i.within) * stride + i.below

-- The same parts, but x within.
abbrev pub with_within : Indices → ℕ → Indices
with_within i x = record { below = i.below; within = x; above = i.above }

-- `subgroup_to_overgroup`, where the part within has M elements in the overgroup and N in the subgroup.
abbrev pub over_of : (stride M N : ℕ) (toOver : ℕ → ℕ) (e : ℕ) → ℕ
over_of stride M N toOver e =
    unfactor_indices (with_within (factor_indices e stride N) (toOver (factor_indices e stride N).within)) stride M

-- `overgroup_to_subgroup`, where `no_number` is "not in the subgroup".
abbrev pub sub_of : (stride M N : ℕ) (toSub : ℕ → ℕ) (x : ℕ) → ℕ
sub_of stride M N toSub x =
    pick (eqb (toSub (factor_indices x stride M).within) no_number) no_number
    (unfactor_indices (with_within (factor_indices x stride M) (toSub (factor_indices x stride M).within)) stride N)
