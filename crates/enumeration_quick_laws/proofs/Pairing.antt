-- The place of the pair of two generators in the list of orders.
use Prim.Native.Nat.{ℕ, ◌<◌, ◌≤◌}
use mathlib.Core.Path.{◌≡◌, refl, sym}
use mathlib.Core.Logic.{◌⊎◌, inl, inr}
use mathlib.Core.List.{List}
use native.Mathlib.Omega.{arith}
use native.Mathlib.Decide.{dec_lt}
use borrow.Author.Tests.{lt-ltb, le-ltb}
use lib.ListN.{get_or, length}
use Rattle.egg.specs.Pairs.{pair_count}
use Rattle.theory.specs.Presentation.{pairs_below, pair_place}
use Rattle.theory.proofs.Pairs.{pairs_length, pair_inside}
use Rattle.factor_relations_laws.proofs.Codes.{code_first, code_second}
use Rattle.enumeration_loop_laws.specs.Rings.{first_of_pair, second_of_pair}
use Rattle.enumeration_quick_loops.specs.Loops.{order_for}

-- The pair of g and h stands at that place, and its order is there.
pub record PairOf (o : List ℕ) (g h : ℕ) : Type 0 where
  pub place : ℕ
  pub is : ((g < h) × (place ≡ pair_place g h)) ⊎ ((h < g) × (place ≡ pair_place h g))
  pub below : place < length o
  pub letters : ((h ≡ first_of_pair place) × (g ≡ second_of_pair place)) ⊎ ((h ≡ second_of_pair place) × (g ≡ first_of_pair place))
  pub order : order_for o g h ≡ get_or o place 0

module _ {i j : ℕ} (hi : i < j) (hj : j < 8) where
  pub first_is : first_of_pair (pair_place i j) ≡ i
  first_is = omega (arith, code_first hi hj)

  pub second_is : second_of_pair (pair_place i j) ≡ j
  second_is = code_second hi hj

module _ {n : ℕ} {o : List ℕ} (few : n ≤ 8) (full : length o ≡ pairs_below n) where
  pub pair_of : {g h : ℕ} → g < n → h < n → (h ≡ g → ⊥) → PairOf o g h
  unfolding order_for pair_count
  pair_of {g} {h} hg hh d = by (dec_lt g h) where
    by : Dec (g < h) → PairOf o g h
    by (yes l) = record {
      place = pair_place g h;
      is = inl (l, refl);
      below = rw full (pair_inside l hh);
      letters = inr (sym (second_is l (omega arith)), sym (first_is l (omega arith)));
      order = simp (lt-ltb _ _ l, pairs_length h);
    }
    by (no l) =
        let l' : h < g = omega arith in
        record {
          place = pair_place h g;
          is = inr (l', refl);
          below = rw full (pair_inside l' hg);
          letters = inl (sym (first_is l' (omega arith)), sym (second_is l' (omega arith)));
          order = simp (le-ltb g h (omega arith), pairs_length g);
        }
