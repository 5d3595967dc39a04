-- The two maps that the index formulas make of a factor's are those of a direct product.
use Prim.Native.Nat.{ℕ, ◌*◌, ◌/◌, ◌%◌, ◌<◌, ◌≤◌}
use mathlib.Core.Path.{◌≡◌, ◌∙◌, ap}
use native.Mathlib.Omega.{arith}
use Rattle.build_numbering.specs.Renumber as appear
use Rattle.subgroup.specs.Indices.{factor_indices, with_within, over_of, sub_of}
use Rattle.subgroup.proofs.IndexLaws.{unfactor_small, below_is, within_is, above_is, below_small, within_small, above_small, unfactor_factor, sub_none, sub_some}
use Rattle.promises_subgroup.specs.Carried.{MapsUndo}

-- The parts of what the maps give.
module _ (B A : ℕ) {M N : ℕ} {toOver toSub : ℕ → ℕ} (C : MapsUndo M N toOver toSub) where
  module _ {e : ℕ} (h : e < B * (N * A)) where
    inside : toOver (e / B % N) < M
    inside = C.over_below (within_small B N A e h)

    pub over_small : over_of B M N toOver e < B * (M * A)
    over_small = unfactor_small B M A (with_within (factor_indices e B N) (toOver (e / B % N))) (below_small B N A e h) inside (above_small B N A e h)

    pub over_below_is : over_of B M N toOver e % B ≡ e % B
    over_below_is = below_is B M (with_within (factor_indices e B N) (toOver (e / B % N))) (below_small B N A e h) inside

    pub over_within_is : over_of B M N toOver e / B % M ≡ toOver (e / B % N)
    over_within_is = within_is B M (with_within (factor_indices e B N) (toOver (e / B % N))) (below_small B N A e h) inside

    pub over_above_is : over_of B M N toOver e / B / M ≡ e / B / N
    over_above_is = above_is B M (with_within (factor_indices e B N) (toOver (e / B % N))) (below_small B N A e h) inside

    not_none : ¬ (toSub (over_of B M N toOver e / B % M) ≡ appear.no_number)
    not_none q =
        let k : toSub (over_of B M N toOver e / B % M) ≡ e / B % N = ap toSub over_within_is ∙ C.there_and_back (within_small B N A e h) in
        omega (arith, C.small, within_small B N A e h)

    pub over_and_back : sub_of B M N toSub (over_of B M N toOver e) ≡ e
    over_and_back =
        sub_some B M N toSub (over_of B M N toOver e) not_none
        ∙ rw (over_below_is, over_within_is, over_above_is, C.there_and_back (within_small B N A e h)) (unfactor_factor B N e)

  module _ {x : ℕ} (h : x < B * (M * A)) where
    module _ (k : ¬ (toSub (x / B % M) ≡ appear.no_number)) where
      inner : toSub (x / B % M) < N
      inner = C.sub_below (within_small B M A x h) k

      pub member_small : sub_of B M N toSub x < B * (N * A)
      member_small =
          rw (sub_some B M N toSub x k) (unfactor_small B N A (with_within (factor_indices x B M) (toSub (x / B % M))) (below_small B M A x h) inner (above_small B M A x h))

      member_back : over_of B M N toOver (sub_of B M N toSub x) ≡ x
      member_back =
          ap (over_of B M N toOver) (sub_some B M N toSub x k)
          ∙ rw (
            below_is B N (with_within (factor_indices x B M) (toSub (x / B % M))) (below_small B M A x h) inner,
            within_is B N (with_within (factor_indices x B M) (toSub (x / B % M))) (below_small B M A x h) inner,
            above_is B N (with_within (factor_indices x B M) (toSub (x / B % M))) (below_small B M A x h) inner,
            C.back_and_there (within_small B M A x h) k,
          ) (unfactor_factor B M x)

    part_some : ¬ (sub_of B M N toSub x ≡ appear.no_number) → ¬ (toSub (x / B % M) ≡ appear.no_number)
    part_some f q = f (sub_none B M N toSub x q)

  -- The maps of the index formulas undo each other, as those of the factor do.
  pub carried_product : B * (N * A) ≤ appear.no_number → MapsUndo (B * (M * A)) (B * (N * A)) (over_of B M N toOver) (sub_of B M N toSub)
  carried_product small = record {
    small = small;
    over_below = λ {e} h. over_small h;
    there_and_back = λ {e} h. over_and_back h;
    sub_below = λ {x} h f. member_small h (part_some h f);
    back_and_there = λ {x} h f. member_back h (part_some h f);
  }
