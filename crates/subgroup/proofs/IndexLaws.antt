-- The index formulas: splitting and joining undo each other, within their ranges.
use Prim.Native.Nat.{ℕ, ◌+◌, ◌*◌, ◌/◌, ◌%◌, ◌<◌}
use mathlib.Core.Path.{◌≡◌, ◌∙◌}
use native.Mathlib.Nat.{mod-add-div, mul_comm, add_comm}
use borrow.Author.Tests.{eq-eqb, ne_eqb}
use Rattle.build_numbering.specs.Renumber as appear
use Rattle.theory_radix.proofs.RadixLaws.{low, high, joined_small, low_small, high_small}
use Rattle.subgroup.specs.Indices.{Indices, factor_indices, unfactor_indices, sub_of}

-- As the digits of a product.
pub unfactor_is : (i : Indices) (B M : ℕ) → unfactor_indices i B M ≡ i.below + B * (i.within + M * i.above)
unfactor_is i B M =
    rw (mul_comm i.above M, add_comm (M * i.above) i.within, mul_comm (i.within + M * i.above) B, add_comm (B * (i.within + M * i.above)) i.below)

pub unfactor_small : (B M A : ℕ) (i : Indices) → i.below < B → i.within < M → i.above < A → unfactor_indices i B M < B * (M * A)
unfactor_small B M A i b m a = rw (unfactor_is i B M) (joined_small b (i.within + M * i.above) (joined_small m i.above a))

module _ (B M : ℕ) (i : Indices) (b : i.below < B) (m : i.within < M) where
  abbrev rest : ℕ
  rest = i.within + M * i.above

  pub below_is : unfactor_indices i B M % B ≡ i.below
  below_is = rw (unfactor_is i B M) (low b rest)

  pub within_is : unfactor_indices i B M / B % M ≡ i.within
  within_is = rw (unfactor_is i B M, high b rest) (low m i.above)

  pub above_is : unfactor_indices i B M / B / M ≡ i.above
  above_is = rw (unfactor_is i B M, high b rest) (high m i.above)

module _ (B M A e : ℕ) (h : e < B * (M * A)) where
  pub below_small : e % B < B
  below_small = low_small B (M * A) e h

  pub within_small : e / B % M < M
  within_small = low_small M A (e / B) (high_small B (M * A) e h)

  pub above_small : e / B / M < A
  above_small = high_small M A (e / B) (high_small B (M * A) e h)

-- Split and joined again.
pub unfactor_factor : (B M e : ℕ) → unfactor_indices (factor_indices e B M) B M ≡ e
unfactor_factor B M e = unfactor_is (factor_indices e B M) B M ∙ rw (mod-add-div (e / B) M) (mod-add-div e B)

-- An element of the overgroup is in the subgroup exactly if its part within is.
module _ (B M N : ℕ) (toSub : ℕ → ℕ) (x : ℕ) where
  pub sub_none : toSub (x / B % M) ≡ appear.no_number → sub_of B M N toSub x ≡ appear.no_number
  sub_none q = simp (eq-eqb _ _ q)

  pub sub_some : ¬ (toSub (x / B % M) ≡ appear.no_number)
      → sub_of B M N toSub x ≡ unfactor_indices (record { below = x % B; within = toSub (x / B % M); above = x / B / M }) B N
  sub_some q = simp (ne_eqb _ _ q)
