-- The map of the index formulas in code: its numbers are within 32 bits, and one law for each answer.
use Prim.Native.Nat.{ℕ, ◌+◌, ◌*◌, ◌/◌, ◌%◌, ◌≤◌, ◌<◌}
use mathlib.Core.Path.{◌≡◌, refl, ◌∙◌, subst}
use mathlib.Core.List.{List}
use native.Mathlib.Nat.{mul-le-mul}
use native.Mathlib.Omega.{arith}
use borrow.Author.Tests.{lt-ltb, le-ltb, eq-eqb, ne_eqb}
use lib.ListN.{get_or}
use Rattle.egg.specs.declared.Refusal.{Refusal}
use Rattle.egg.specs.declared.GroupElementId.{GroupElementId}
use Rattle.egg.specs.Answers.{Reached}
use Rattle.std.specs.Prelude.{Ok, Err, Some, None}
use Rattle.egg.specs.Factor.{refused_reach}
use Rattle.egg.specs.Answers.{on_reached}
use Rattle.theory_radix.proofs.RadixLaws.{range_pos, high_small}
use Rattle.group_handles.specs.Handles.{handles, elements_of, capped}
use Rattle.group_handles.proofs.Caps.{cap_small}
use Rattle.build_numbering.specs.Renumber.{no_number}
use Rattle.subgroup_build.specs.declared.Subgroup.{Subgroup}
use Rattle.subgroup.specs.Answers.{Within}
use Rattle.subgroup.specs.Indices.{factor_indices, unfactor_indices, with_within}
use Rattle.subgroup_sides.specs.Sides.{over_side, sub_side}
use Rattle.subgroup.specs.Questions.{carried_by, carried_over, carried_back_by, carried_back, refused_within}
use Rattle.subgroup_sides.proofs.Counts.{over_count_lem, sub_count, first_small, second_small}
use Rattle.subgroup.proofs.IndexLaws.{unfactor_small, below_small, above_small}

-- An element of B·C·A: none of the three is zero.
module _ (B C A e : ℕ) (h : e < B * (C * A)) where
  pub first_some : 0 < B
  first_some = range_pos B (C * A) e h

  pub second_some : 0 < C
  second_some = range_pos C A (e / B) (high_small B (C * A) e h)

  pub third_some : 0 < A
  third_some = omega (arith, high_small C A (e / B) (high_small B (C * A) e h))

-- From the subgroup to the overgroup, by the cell w of the map.
module _ (B M N A e : ℕ) (cut : e < B * (N * A)) (over_small : B * (M * A) ≤ 4294967295) where
  pub carry_fits : (w : ℕ) → w < M → unfactor_indices (with_within (factor_indices e B N) w) B M < 4294967296
  carry_fits w k =
      omega (arith, over_small, unfactor_small B M A (with_within (factor_indices e B N) w) (below_small B N A e cut) k (above_small B N A e cut))

module _ (B M N e : ℕ) (outw : List ℕ) {w : ℕ} (r : w ≡ get_or outw (e / B % N) 0) where
  pub carry_refused : M ≤ w → refused_reach 17 0 ≡ carried_by B M N outw e
  carry_refused k = rw (← r, le-ltb w M k)

  pub carry_is : w < M → {t : ℕ} → t ≡ unfactor_indices (with_within (factor_indices e B N) w) B M → Ok (record { 0 = t }) ≡ carried_by B M N outw e
  carry_is k u = rw (← r, lt-ltb w M k, u)

-- And back.
module _ (B M N x : ℕ) (inn : List ℕ) {w : ℕ} (r : w ≡ get_or inn (x / B % M) 0) where
  pub back_outside : w ≡ no_number → ◌≡◌ {A = Within} (Ok None) (carried_back_by B M N inn x)
  back_outside k = rw (← r, eq-eqb w no_number k)

  module _ (f : ¬ (w ≡ no_number)) where
    pub back_refused : N ≤ w → refused_within 17 ≡ carried_back_by B M N inn x
    back_refused k = rw (← r, ne_eqb w no_number f, le-ltb w N k)

    pub back_is : w < N → {t : ℕ} → t ≡ unfactor_indices (with_within (factor_indices x B M) w) B N
        → Ok (Some (record { 0 = t })) ≡ carried_back_by B M N inn x
    back_is k u = rw (← r, ne_eqb w no_number f, lt-ltb w N k, u)

-- Where both sides are within 32 bits, so are their parts.
module _ (s : Subgroup) (small : elements_of (sub_side s) ≤ 4294967295) (large : elements_of (over_side s) ≤ 4294967295) where
  abbrev B : ℕ
  B = elements_of (handles s.below)

  abbrev M : ℕ
  M = elements_of (handles s.over)

  abbrev N : ℕ
  N = s.factor.elements

  abbrev A : ℕ
  A = elements_of (handles s.above)

  sub_small : B * (N * A) ≤ 4294967295
  sub_small = subst (λ (k : ℕ). k ≤ 4294967295) (sub_count s) small

  over_small : B * (M * A) ≤ 4294967295
  over_small = subst (λ (k : ℕ). k ≤ 4294967295) (over_count_lem s) large

  module _ (e : ℕ) (h : e < elements_of (sub_side s)) where
    cut : e < B * (N * A)
    cut = subst (λ (k : ℕ). e < k) (sub_count s) h

    sub_stride : {b : ℕ} → b ≡ capped B → b ≡ B
    sub_stride q = q ∙ cap_small (first_small B N A (second_some B N A e cut) (third_some B N A e cut) sub_small)

    sub_over : {m : ℕ} → m ≡ capped M → m ≡ M
    sub_over q = q ∙ cap_small (second_small B M A (first_some B N A e cut) (third_some B N A e cut) over_small)

    pub carried_is : (outw : List ℕ) → carried_by (capped B) (capped M) N outw e ≡ carried_over s outw e
    unfolding carried_over
    carried_is outw =
        let p : capped B ≡ B = sub_stride refl in
        let q : capped M ≡ M = sub_over refl in
        rw (p, q)

  module _ (x : ℕ) (h : x < elements_of (over_side s)) where
    cut_over : x < B * (M * A)
    cut_over = subst (λ (k : ℕ). x < k) (over_count_lem s) h

    over_stride : {b : ℕ} → b ≡ capped B → b ≡ B
    over_stride q = q ∙ cap_small (first_small B M A (second_some B M A x cut_over) (third_some B M A x cut_over) over_small)

    over_over : {m : ℕ} → m ≡ capped M → m ≡ M
    over_over q = q ∙ cap_small (second_small B M A (first_some B M A x cut_over) (third_some B M A x cut_over) over_small)

    pub carried_back_is : (inn : List ℕ) → carried_back_by (capped B) (capped M) N inn x ≡ carried_back s inn x
    unfolding carried_back
    carried_back_is inn =
        let p : capped B ≡ B = over_stride refl in
        let q : capped M ≡ M = over_over refl in
        rw (p, q)

-- The parts of a number within 32 bits are.
pub inner_small : (q m w b r : ℕ) → 1 ≤ b → (q * m + w) * b + r < 4294967296 → q * m + w < 4294967296
inner_small q m w b r h k =
    let l : q * m + w ≤ q * m + w = omega arith in
    let z : (q * m + w) * 1 ≤ (q * m + w) * b = mul-le-mul l h in
    let y : (q * m + w) * b < 4294967296 = omega arith in
    omega (arith, z, y)

-- What goes on from an element.
pub carries_refused : {r v : Reached} (q : r ≡ v) (F : ℕ → Reached) {w : Refusal} → r ≡ Err w → Err w ≡ on_reached v F
carries_refused q F e = rw (← q, e)

pub carries_on : {r v : Reached} (q : r ≡ v) (F : ℕ → Reached) {e : GroupElementId} → r ≡ Ok e → F e.0 ≡ on_reached v F
carries_on q F e = rw (← q, e)
