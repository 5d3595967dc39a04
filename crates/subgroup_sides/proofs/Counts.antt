-- How many elements the two sides have, also as far as 32 bits can tell.
use Prim.Native.Nat.{ℕ, ◌*◌, ◌≤◌, ◌<◌, zero-le}
use mathlib.Core.Path.{◌≡◌, sym, ap, ◌∙◌}
use mathlib.Core.List.{List, [], ◌∷◌, ◌++◌}
use native.Mathlib.Nat.{mul_assoc, mul_comm, mul-le-mul, zero-mul, one-mul}
use native.Mathlib.Omega.{arith}
use Rattle.egg.specs.declared.Factor.{Factor}
use Rattle.group_handles.specs.Handles.{handles, elements_of, capped}
use Rattle.group_handles.proofs.Caps.{cap_small, cap_large, cap_times, capped_bound}
use Rattle.subgroup_build.specs.declared.Subgroup.{Subgroup}
use Rattle.subgroup_sides.specs.Sides.{over_side, sub_side}

pub elements_append : (xs ys : List Factor) → elements_of (xs ++ ys) ≡ elements_of xs * elements_of ys
elements_append [] ys = sym (one-mul (elements_of ys))
elements_append (x ∷ xs) ys =
    ap (λ (k : ℕ). x.elements * k) (elements_append xs ys) ∙ sym (mul_assoc x.elements (elements_of xs) (elements_of ys))

module _ (s : Subgroup) where
  pub over_count_lem : elements_of (over_side s) ≡ elements_of (handles s.below) * (elements_of (handles s.over) * elements_of (handles s.above))
  over_count_lem =
      elements_append (handles s.below) (handles s.over ++ handles s.above)
      ∙ ap (λ (k : ℕ). elements_of (handles s.below) * k) (elements_append (handles s.over) (handles s.above))

  pub sub_count : elements_of (sub_side s) ≡ elements_of (handles s.below) * (s.factor.elements * elements_of (handles s.above))
  sub_count = elements_append (handles s.below) (s.factor ∷ handles s.above)

-- Caps on the way make no difference.
pub cap_right : (x y : ℕ) → capped (x * capped y) ≡ capped (x * y)
cap_right x y = ap capped (mul_comm x (capped y)) ∙ cap_times y x ∙ ap capped (mul_comm y x)

pub cap_both : (x y : ℕ) → capped (capped x * capped y) ≡ capped (x * y)
cap_both x y = cap_times x (capped y) ∙ cap_right x y

pub cap_low : (n : ℕ) {r : ℕ} → r ≡ capped n → r ≤ 4294967296
cap_low n q = rw q (capped_bound n)

-- A product of two numbers that were capped.
module _ (p q : ℕ) where
  pub times_none_left : p ≡ 0 → 0 ≡ capped (p * q)
  times_none_left e = let z : p * q ≡ 0 = rw e (zero-mul q) in sym (rw z (cap_small zero-le))

  pub times_large_right : ¬ (p ≡ 0) → 4294967295 < q → 4294967296 ≡ capped (p * q)
  times_large_right f h =
      let k : 1 ≤ p = omega arith in
      let l : 4294967295 < p * q = omega (arith, mul-le-mul k h) in
      sym (cap_large l)

-- What is between two others.
module _ (B m A : ℕ) where
  pub around_is : {b h a r : ℕ} → a ≡ capped A → h ≡ capped (m * a) → b ≡ capped B → r ≡ capped (b * h) → r ≡ capped (B * (m * A))
  around_is {b} {h} {a} {r} p q u v =
      let z : h ≡ capped (m * A) = q ∙ ap (λ (k : ℕ). capped (m * k)) p ∙ cap_right m A in
      v ∙ ap (λ (k : ℕ). capped (k * h)) u ∙ ap (λ (k : ℕ). capped (capped B * k)) z ∙ cap_both B (m * A)

module _ (s : Subgroup) {r : ℕ} where
  pub over_elements_is : {m : ℕ} → m ≡ capped (elements_of (handles s.over))
      → r ≡ capped (elements_of (handles s.below) * (m * elements_of (handles s.above))) → r ≡ capped (elements_of (over_side s))
  over_elements_is {m} p q =
      let B : ℕ = elements_of (handles s.below) in
      let M : ℕ = elements_of (handles s.over) in
      let A : ℕ = elements_of (handles s.above) in
      let z : capped (m * A) ≡ capped (M * A) = ap (λ (k : ℕ). capped (k * A)) p ∙ cap_times M A in
      q ∙ sym (cap_right B (m * A)) ∙ ap (λ (k : ℕ). capped (B * k)) z ∙ cap_right B (M * A) ∙ ap capped (sym (over_count_lem s))

  pub sub_elements_is : r ≡ capped (elements_of (handles s.below) * (s.factor.elements * elements_of (handles s.above))) → r ≡ capped (elements_of (sub_side s))
  sub_elements_is q = q ∙ ap capped (sym (sub_count s))

-- Parts of a product within a limit are.
pub first_small : (B C A : ℕ) {L : ℕ} → 0 < C → 0 < A → B * (C * A) ≤ L → B ≤ L
first_small B C A hc ha h =
    let k : 1 * 1 ≤ C * A = mul-le-mul hc ha in
    let b : B ≤ B = omega arith in
    let l : 1 ≤ C * A = omega (arith, k) in
    omega (arith, mul-le-mul b l)

pub second_small : (B C A : ℕ) {L : ℕ} → 0 < B → 0 < A → B * (C * A) ≤ L → C ≤ L
second_small B C A hb ha h =
    let c : C ≤ C = omega arith in
    let k : C * 1 ≤ C * A = mul-le-mul c ha in
    let l : 1 * (C * A) ≤ B * (C * A) = mul-le-mul hb (le_same (C * A)) in
    omega (arith, k, l)
  where
    le_same : (n : ℕ) → n ≤ n
    le_same n = omega arith

pub third_small : (B C A : ℕ) {L : ℕ} → 0 < B → 0 < C → B * (C * A) ≤ L → A ≤ L
third_small B C A hb hc h =
    let a : A ≤ A = omega arith in
    let k : 1 * A ≤ C * A = mul-le-mul hc a in
    let c : C * A ≤ C * A = omega arith in
    let l : 1 * (C * A) ≤ B * (C * A) = mul-le-mul hb c in
    omega (arith, k, l)

pub pair_small : (B C A : ℕ) {L : ℕ} → 0 < A → B * (C * A) ≤ L → B * C ≤ L
pair_small B C A ha h =
    let b : B * C ≤ B * C = omega arith in
    let k : B * C * 1 ≤ B * C * A = mul-le-mul b ha in
    omega (arith, k)
