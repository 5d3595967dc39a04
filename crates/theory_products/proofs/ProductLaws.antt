-- The direct product of groups is a group, with identity 0.
use mathlib.Core.Path.{◌≡◌, refl, ap, subst₃, fun_ext}
use mathlib.Core.List.{List, [], ◌∷◌}
use Prim.Native.Nat.{ℕ, suc, ◌+◌, ◌*◌, ◌/◌, ◌%◌, ◌<◌}
use native.Mathlib.Nat.{mod-add-div, zero-mod, zero-div, mul-zero, mul-pos}
use native.Mathlib.Omega.{arith}
use lib.ListN.{length}
use Rattle.theory.specs.Group.{GroupOn}
use Rattle.theory_radix.specs.Radix.{count}
use Rattle.theory_products.specs.Product.{Part, trivial, pair, product, digit_ranges, componentwise, Each, none, more, IsGroup}
use Rattle.theory_radix.proofs.RadixLaws.{low, high, joined_small, low_small, high_small}

-- What holds of the one_element group, and of a pair if of both, holds of every product.
pub product_has : {P : Part → Type 0} {ps : List Part} → P trivial → ((p q : Part) → P p → P q → P (pair p q)) → Each P ps → P (product ps)
product_has t f none = t
product_has t f (more {p} {ps} h hs) = f p (product ps) h (product_has t f hs)

pub trivial_group : IsGroup trivial
trivial_group = record {
  laws = record {
    identity = omega arith;
    op_closed = λ a b. omega arith;
    inv_closed = λ a. omega arith;
    assoc = λ a b c. refl;
    left_identity = λ a. omega arith;
    right_identity = λ a. omega arith;
    left_inverse = λ a. refl;
    right_inverse = λ a. refl;
  };
}

-- The pair of two groups is a group.
module _ (p q : Part) (P : IsGroup p) (Q : IsGroup q) where
  pub pair_group : IsGroup (pair p q)
  pair_group = record {
    laws = record {
      identity = mul-pos P.laws.identity Q.laws.identity;
      op_closed = λ {a} {b} ha hb. joined_small (P.laws.op_closed (l a ha) (l b hb)) _ (Q.laws.op_closed (h a ha) (h b hb));
      inv_closed = λ {a} ha. joined_small (P.laws.inv_closed (l a ha)) _ (Q.laws.inv_closed (h a ha));
      assoc = λ {a} {b} {c} ha hb hc.
          let ab = P.laws.op_closed (l a ha) (l b hb) in
          let bc = P.laws.op_closed (l b hb) (l c hc) in
          rw (low ab, high ab, low bc, high bc, P.laws.assoc (l a ha) (l b hb) (l c hc), Q.laws.assoc (h a ha) (h b hb) (h c hc));
      left_identity = λ {a} ha. rw (zero-mod, zero-div, P.laws.left_identity (l a ha), Q.laws.left_identity (h a ha)) (mod-add-div a p.elements);
      right_identity = λ {a} ha. rw (zero-mod, zero-div, P.laws.right_identity (l a ha), Q.laws.right_identity (h a ha)) (mod-add-div a p.elements);
      left_inverse = λ {a} ha.
          let i = P.laws.inv_closed (l a ha) in
          rw (low i, high i, P.laws.left_inverse (l a ha), Q.laws.left_inverse (h a ha)) (omega (arith, mul-zero p.elements));
      right_inverse = λ {a} ha.
          let i = P.laws.inv_closed (l a ha) in
          rw (low i, high i, P.laws.right_inverse (l a ha), Q.laws.right_inverse (h a ha)) (omega (arith, mul-zero p.elements));
    };
  } where
    l : (e : ℕ) → e < p.elements * q.elements → e % p.elements < p.elements
    l = low_small p.elements q.elements

    h : (e : ℕ) → e < p.elements * q.elements → e / p.elements < q.elements
    h = high_small p.elements q.elements

-- So is every product of groups, the empty one too.
pub product_group : {ps : List Part} → Each IsGroup ps → IsGroup (product ps)
product_group gs = product_has trivial_group pair_group gs

pub product_count : (ps : List Part) → (product ps).elements ≡ count (digit_ranges ps)
product_count [] = refl
product_count (p ∷ ps) = ap (λ x. p.elements * x) (product_count ps)

pub ranges_length : (ps : List Part) → length (digit_ranges ps) ≡ length ps
ranges_length [] = refl
ranges_length (p ∷ ps) = ap suc (ranges_length ps)

-- The operation and the inverse of a product are taken factor by factor, for all numbers.
pub op_is : (ps : List Part) (a b : ℕ) → (product ps).op a b ≡ componentwise (λ p. p.op) ps a b
op_is [] a b = refl
op_is (p ∷ ps) a b =
    ap (λ x. p.op (a % p.elements) (b % p.elements) + p.elements * x) (op_is ps (a / p.elements) (b / p.elements))

pub inv_is : (ps : List Part) (a : ℕ) → (product ps).inv a ≡ componentwise (λ p a b. p.inv a) ps a a
inv_is [] a = refl
inv_is (p ∷ ps) a = ap (λ x. p.inv (a % p.elements) + p.elements * x) (inv_is ps (a / p.elements))

-- The direct product: factor by factor, groups make a group on 0 .. count-1 with identity 0.
pub direct_product : {ps : List Part} → Each IsGroup ps
    → GroupOn (count (digit_ranges ps)) (componentwise (λ p. p.op) ps) (λ a. componentwise (λ p a b. p.inv a) ps a a)
direct_product {ps} gs =
    subst₃ (λ N op inv. GroupOn N op inv) (product_count ps) (fun_ext λ a. fun_ext λ b. op_is ps a b) (fun_ext λ a. inv_is ps a) (product_group gs).laws

pub each_weaken : {P Q : Part → Type 0} {ps : List Part} → ((p : Part) → P p → Q p) → Each P ps → Each Q ps
each_weaken w none = none
each_weaken w (more {p} h hs) = more (w p h) (each_weaken w hs)
