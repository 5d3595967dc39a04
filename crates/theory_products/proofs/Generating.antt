-- The generators of a product of factors whose generators are distinct, and none of them the identity, are so too.
use Prim.Native.Nat.{ℕ, ◌+◌, ◌*◌, ◌≤◌, ◌<◌}
use mathlib.Core.Path.{◌≡◌, sym, ap, ◌∙◌}
use mathlib.Core.List.{List}
use native.Mathlib.Nat.{eq_of_mul-eq-mul_left, mul-le-mul, le_refl, mul-one}
use native.Mathlib.Omega.{arith}
use Rattle.theory_products.specs.Product.{Part, trivial, pair, product, Each, DistinctlyGenerated}
use Rattle.theory_products.proofs.ProductLaws.{product_has}
use Rattle.theory_products.proofs.StepLaws.{WhichFactor, left, right, side, element_left, element_right, pair_stepped, trivial_stepped}

-- A multiple of N that is below N, or 0, is none.
no_multiple : (N k : ℕ) → 0 < N → (k ≡ 0 → ⊥) → N ≤ N * k
no_multiple N k h z = let o : 1 ≤ k = omega arith in omega (arith, mul-le-mul (le_refl N) o, mul-one N)

module _ (p q : Part) (P : DistinctlyGenerated p) (Q : DistinctlyGenerated q) where
  moves : (G : ℕ) → WhichFactor p.generators q.generators G → (pair p q).step 0 G ≡ 0 → ⊥
  moves G (left h) z = P.distinct.moves h (omega (arith, element_left p q h, z))
  moves G (right g h e) z =
      let n : p.elements ≤ p.elements * q.step 0 g = no_multiple p.elements (q.step 0 g) P.stepped.group.laws.identity (λ k. Q.distinct.moves h k) in
      let k : (pair p q).step 0 (p.generators + g) ≡ 0 = ap ((pair p q).step 0) (sym e) ∙ z in
      omega (arith, n, element_right p q g, k, P.stepped.group.laws.identity)

  -- An element of the first factor is below all that are multiples of its number of elements.
  mixed : {g h : ℕ} → g < p.generators → h < q.generators → (pair p q).step 0 g ≡ (pair p q).step 0 (p.generators + h) → ⊥
  mixed {g} {h} hg hh z =
      let n : p.elements ≤ p.elements * q.step 0 h = no_multiple p.elements (q.step 0 h) P.stepped.group.laws.identity (λ k. Q.distinct.moves hh k) in
      omega (arith, n, element_left p q hg, element_right p q h, z, P.stepped.steps.element hg)

  apart : (G H : ℕ) → WhichFactor p.generators q.generators G → WhichFactor p.generators q.generators H → (pair p q).step 0 G ≡ (pair p q).step 0 H → G ≡ H
  apart G H (left g) (left h) z = P.distinct.apart g h (omega (arith, element_left p q g, element_left p q h, z))
  apart G H (left g) (right y h e) z = absurd (mixed g h (z ∙ ap ((pair p q).step 0) e))
  apart G H (right x g d) (left h) z = absurd (mixed h g (sym z ∙ ap ((pair p q).step 0) d))
  apart G H (right x g d) (right y h e) z =
      let k : p.elements * q.step 0 x ≡ p.elements * q.step 0 y =
      omega (arith, element_right p q x, element_right p q y, ap ((pair p q).step 0) (sym d) ∙ z ∙ ap ((pair p q).step 0) e) in
      let same : x ≡ y = Q.distinct.apart g h (eq_of_mul-eq-mul_left p.elements P.stepped.group.laws.identity (q.step 0 x) (q.step 0 y) k) in
      d ∙ ap (λ (i : ℕ). p.generators + i) same ∙ sym e

  pair_generated : DistinctlyGenerated (pair p q)
  pair_generated = record {
    stepped = pair_stepped p q P.stepped Q.stepped;
    distinct = record {
      moves = λ {g} h z. moves g (side p.generators q.generators g h) z;
      apart = λ {g} {h} a b z. apart g h (side p.generators q.generators g a) (side p.generators q.generators h b) z;
    };
  }

trivial_generated : DistinctlyGenerated trivial
trivial_generated = record { stepped = trivial_stepped; distinct = record { moves = λ h z. absurd (omega arith); apart = λ a b z. absurd (omega arith) } }

pub product_generated : {ps : List Part} → Each DistinctlyGenerated ps → DistinctlyGenerated (product ps)
product_generated gs = product_has trivial_generated pair_generated gs
