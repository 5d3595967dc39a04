-- A subgroup that `from_predicate` makes depends on the stretches of its overgroup's factors only.
use Prim.Native.Nat.{ℕ}
use mathlib.Core.Path.{◌≡◌, fun_ext}
use mathlib.Core.Bool.{true}
use mathlib.Core.List.{List}
use lib.ListN.{length}
use Rattle.group_handles.specs.declared.Group.{Group}
use Rattle.group_handles.specs.Handles.{handles, all_fit}
use Rattle.group_digits.specs.Digits.{composes}
use Rattle.subgroup_predicate.specs.Predicate.{admits_over, told_into, from_predicate}
use Rattle.promises_subgroup.specs.Unaltered.{EachSame}
use Rattle.promises_subgroup.proofs.Unaltered.{composes_same}

-- The overgroup's stretches decide what is made of it, whatever else its buffer holds: every answer and every lent buffer.
module _ {from from' : List ℕ} (over : Group) (fits : all_fit (length from) (handles over) ≡ true) (fits' : all_fit (length from') (handles over) ≡ true)
    (same : EachSame from from' (handles over)) where
  products : composes from' (handles over) ≡ composes from (handles over)
  products = fun_ext λ a. fun_ext λ b. composes_same same a b

  pub predicate_same : (members table : List ℕ) (start : ℕ) (work inn outw : List ℕ) (room : ℕ)
      → from_predicate from' over members table start work inn outw room ≡ from_predicate from over members table start work inn outw room
  unfolding from_predicate admits_over told_into
  predicate_same members table start work inn outw room = rw (fits, fits', products)
