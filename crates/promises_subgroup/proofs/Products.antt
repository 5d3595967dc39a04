-- The maps of the index formulas carry composition, in the direct product of what is below, the factor, and what is above. And the left and the right
-- product of a pair of maps are the direct product's.
use Prim.Native.Nat.{ℕ, ◌+◌, ◌*◌, ◌/◌, ◌%◌, ◌<◌}
use mathlib.Core.Path.{◌≡◌, sym, ◌∙◌, ap}
use mathlib.Core.List.{List, [], ◌∷◌, ◌++◌}
use lib.Arith.{mod-mul}
use native.Mathlib.Nat.{mod-add-div, mod-lt, add_comm, div-one, one-mul, zero-add, mul_comm, zero-mod, zero-div, mul-zero, mul_assoc, mul-add, add_assoc, div-div-eq-div-mul}
use native.Mathlib.Omega.{arith}
use Rattle.build_numbering.specs.Renumber as appear
use Rattle.theory_products.specs.Product.{Part, pair, product, Each, none, more, IsGroup}
use Rattle.theory_radix.proofs.RadixLaws.{low, high, joined_small}
use Rattle.theory_products.proofs.ProductLaws.{product_group}
use Rattle.theory_products.proofs.StepLaws.{WhichFactor, left, right, side, element_left, element_right}
use Rattle.subgroup.specs.Indices.{factor_indices, with_within, over_of}
use Rattle.promises_subgroup.specs.Carried.{MapsUndo, Homomorphic}
use Rattle.subgroup.proofs.IndexLaws.{unfactor_is, below_small, within_small}
use Rattle.promises_subgroup.proofs.Carrying.{over_below_is, over_within_is, over_above_is}

parts : (B N e : ℕ) → e % B + B * (e / B % N + N * (e / B / N)) ≡ e
parts B N e = rw (mod-add-div (e / B) N) (mod-add-div e B)

pub over_is : (B M N : ℕ) (f : ℕ → ℕ) (e : ℕ) → over_of B M N f e ≡ e % B + B * (f (e / B % N) + M * (e / B / N))
over_is B M N f e = unfactor_is (with_within (factor_indices e B N) (f (e / B % N))) B M

-- By its three parts.
pub over_parts : {B N : ℕ} (M : ℕ) (f : ℕ → ℕ) {b x : ℕ} → b < B → x < N → (a : ℕ) → over_of B M N f (b + B * (x + N * a)) ≡ b + B * (f x + M * a)
over_parts {B} {N} M f {b} {x} hb hx a = over_is B M N f (b + B * (x + N * a)) ∙ rw (low hb (x + N * a), high hb (x + N * a), low hx a, high hx a)

module _ (p q s r : Part) (P : IsGroup p) (Q : IsGroup q) (S : IsGroup s) (R : IsGroup r) {toOver toSub : ℕ → ℕ}
    (C : MapsUndo q.elements s.elements toOver toSub)
    (H : Homomorphic s.elements s.op s.inv q.op q.inv toOver) where
  module _ {a : ℕ} (ha : a < p.elements * (s.elements * r.elements)) where
    l : a % p.elements < p.elements
    l = below_small p.elements s.elements r.elements a ha

    m : a / p.elements % s.elements < s.elements
    m = within_small p.elements s.elements r.elements a ha

    pub inverts_product : over_of p.elements q.elements s.elements toOver ((pair p (pair s r)).inv a)
        ≡ (pair p (pair q r)).inv (over_of p.elements q.elements s.elements toOver a)
    inverts_product =
        over_parts q.elements toOver (P.laws.inv_closed l) (S.laws.inv_closed m) (r.inv (a / p.elements / s.elements))
        ∙ rw (over_below_is p.elements r.elements C ha, over_within_is p.elements r.elements C ha, over_above_is p.elements r.elements C ha, H.inverts m)

  module _ {a b : ℕ} (ha : a < p.elements * (s.elements * r.elements)) (hb : b < p.elements * (s.elements * r.elements)) where
    pub composes_product : over_of p.elements q.elements s.elements toOver ((pair p (pair s r)).op a b)
        ≡ (pair p (pair q r)).op (over_of p.elements q.elements s.elements toOver a) (over_of p.elements q.elements s.elements toOver b)
    composes_product =
        over_parts q.elements toOver (P.laws.op_closed (l ha) (l hb)) (S.laws.op_closed (m ha) (m hb))
        (r.op (a / p.elements / s.elements) (b / p.elements / s.elements))
        ∙ rw (
          over_below_is p.elements r.elements C ha,
          over_within_is p.elements r.elements C ha,
          over_above_is p.elements r.elements C ha,
          over_below_is p.elements r.elements C hb,
          over_within_is p.elements r.elements C hb,
          over_above_is p.elements r.elements C hb,
          H.composes (m ha) (m hb),
        )

  pub homomorphic_product : Homomorphic (p.elements * (s.elements * r.elements)) (pair p (pair s r)).op (pair p (pair s r)).inv
      (pair p (pair q r)).op (pair p (pair q r)).inv (over_of p.elements q.elements s.elements toOver)
  homomorphic_product = record {
    identity =
        over_is p.elements q.elements s.elements toOver 0
        ∙ rw (zero-mod p.elements, zero-div p.elements, zero-mod s.elements, zero-div s.elements, H.identity, mul-zero q.elements, mul-zero p.elements);
    composes = λ {a} {b} ha hb. composes_product ha hb;
    inverts = λ {a} ha. inverts_product ha;
  }

-- Back too, of what is in the subgroup.
module _ {M N : ℕ} {opₛ op : ℕ → ℕ → ℕ} {invₛ inv toOver toSub : ℕ → ℕ} (C : MapsUndo M N toOver toSub) (H : Homomorphic N opₛ invₛ op inv toOver)
    (closed : (a b : ℕ) → a < N → b < N → opₛ a b < N) where
  pub sub_composes : {x y : ℕ} → x < M → y < M → ¬ (toSub x ≡ appear.no_number) → ¬ (toSub y ≡ appear.no_number) → toSub (op x y) ≡ opₛ (toSub x) (toSub y)
  sub_composes {x} {y} hx hy f k =
      let a = C.sub_below hx f in
      let b = C.sub_below hy k in
      let z : toOver (opₛ (toSub x) (toSub y)) ≡ op x y = H.composes a b ∙ rw (C.back_and_there hx f, C.back_and_there hy k) in
      ap toSub (sym z) ∙ C.there_and_back (closed (toSub x) (toSub y) a b)

-- `direct_product_left`: another group of L elements below. The stride is L times what it was, and the maps are the direct product's.
spread : (b L l B y : ℕ) → b + L * (l + B * y) ≡ b + L * l + L * B * y
spread b L l B y = rw (mul-add, mul_assoc, add_assoc)

pub left_product_lem : {L : ℕ} (B M N A : ℕ) (f : ℕ → ℕ) {b : ℕ} (e : ℕ) → b < L → e < B * (N * A)
    → over_of (L * B) M N f (b + L * e) ≡ b + L * over_of B M N f e
left_product_lem {L} B M N A f {b} e hb he =
    let l = e % B in
    let x = e / B % N in
    let a = e / B / N in
    let z : b + L * e ≡ b + L * l + L * B * (x + N * a) = ap (λ (k : ℕ). b + L * k) (sym (parts B N e)) ∙ spread b L l B (x + N * a) in
    ap (over_of (L * B) M N f) z ∙ over_parts M f (joined_small hb l (below_small B N A e he)) (within_small B N A e he) a
    ∙ sym (spread b L l B (f x + M * a)) ∙ ap (λ (k : ℕ). b + L * k) (sym (over_is B M N f e))

-- `direct_product_right`: another group above. Stride and counts stay.
widen : (l B x N a A d : ℕ) → l + B * (x + N * a) + B * (N * A) * d ≡ l + B * (x + N * (a + A * d))
widen l B x N a A d = simp (mul-add, mul_assoc, add_assoc)

pub right_product_lem : (B M N A : ℕ) (f : ℕ → ℕ) (e : ℕ) → e < B * (N * A) → (d : ℕ)
    → over_of B M N f (e + B * (N * A) * d) ≡ over_of B M N f e + B * (M * A) * d
right_product_lem B M N A f e he d =
    let l = e % B in
    let x = e / B % N in
    let a = e / B / N in
    let z : e + B * (N * A) * d ≡ l + B * (x + N * (a + A * d)) = ap (λ (k : ℕ). k + B * (N * A) * d) (sym (parts B N e)) ∙ widen l B x N a A d in
    ap (over_of B M N f) z ∙ over_parts M f (below_small B N A e he) (within_small B N A e he) (a + A * d)
    ∙ sym (widen l B (f x) M a A d) ∙ ap (λ (k : ℕ). k + B * (M * A) * d) (sym (over_is B M N f e))

-- A product of two products is the product of all their factors: so what is below, within and above may be products.
module _ (e : ℕ) {B M : ℕ} (b : 0 < B) (m : 0 < M) where
  mod_parts : e % (B * M) ≡ e % B + B * (e / B % M)
  mod_parts = ap (λ (k : ℕ). e % k) (mul_comm B M) ∙ mod-mul e m b ∙ rw (mul_comm (e / B % M) B, add_comm (B * (e / B % M)) (e % B))

  mod_low : e % (B * M) % B ≡ e % B
  mod_low = rw (mod_parts) (low (mod-lt e b) (e / B % M))

  mod_high : e % (B * M) / B ≡ e / B % M
  mod_high = rw (mod_parts) (high (mod-lt e b) (e / B % M))

pub pair_associates : (p q r : Part) → 0 < p.elements → 0 < q.elements → (a b : ℕ) → (pair p (pair q r)).op a b ≡ (pair (pair p q) r).op a b
pair_associates p q r hp hq a b =
    rw (mod_low a hp hq, mod_low b hp hq, mod_high a hp hq, mod_high b hp hq, ← div-div-eq-div-mul a p.elements q.elements, ← div-div-eq-div-mul b p.elements q.elements)
    (spread _ p.elements _ q.elements _)

pub product_append : {ps : List Part} → Each IsGroup ps → (qs : List Part) (a b : ℕ) → (product (ps ++ qs)).op a b ≡ (pair (product ps) (product qs)).op a b
product_append none qs a b = simp (div-one, one-mul, zero-add)
product_append (more {p} {ps} P Ps) qs a b =
    ap (λ (x : ℕ). p.op (a % p.elements) (b % p.elements) + p.elements * x) (product_append Ps qs (a / p.elements) (b / p.elements))
    ∙ pair_associates p (product ps) (product qs) P.laws.identity (product_group Ps).laws.identity a b

pub append_elements : (ps qs : List Part) → (product (ps ++ qs)).elements ≡ (product ps).elements * (product qs).elements
append_elements [] qs = sym (one-mul (product qs).elements)
append_elements (p ∷ ps) qs = rw (append_elements ps qs, mul_assoc)

-- The three parts: factors ps below, os within, rs above.
pub three_products : {ps os : List Part} → Each IsGroup ps → Each IsGroup os → (rs : List Part) (a b : ℕ)
    → (product (ps ++ (os ++ rs))).op a b ≡ (pair (product ps) (pair (product os) (product rs))).op a b
three_products {ps} {os} Ps Os rs a b =
    product_append Ps (os ++ rs) a b
    ∙ ap (λ (x : ℕ). (product ps).op (a % (product ps).elements) (b % (product ps).elements) + (product ps).elements * x)
    (product_append Os rs (a / (product ps).elements) (b / (product ps).elements))

-- The same of inverses.
pub pair_associates_inverse : (p q r : Part) → 0 < p.elements → 0 < q.elements → (a : ℕ) → (pair p (pair q r)).inv a ≡ (pair (pair p q) r).inv a
pair_associates_inverse p q r hp hq a =
    rw (mod_low a hp hq, mod_high a hp hq, ← div-div-eq-div-mul a p.elements q.elements) (spread _ p.elements _ q.elements _)

pub product_append_inverse : {ps : List Part} → Each IsGroup ps → (qs : List Part) (a : ℕ) → (product (ps ++ qs)).inv a ≡ (pair (product ps) (product qs)).inv a
product_append_inverse none qs a = simp (div-one, one-mul, zero-add)
product_append_inverse (more {p} {ps} P Ps) qs a =
    ap (λ (x : ℕ). p.inv (a % p.elements) + p.elements * x) (product_append_inverse Ps qs (a / p.elements))
    ∙ pair_associates_inverse p (product ps) (product qs) P.laws.identity (product_group Ps).laws.identity a

pub three_products_inverse : {ps os : List Part} → Each IsGroup ps → Each IsGroup os → (rs : List Part) (a : ℕ)
    → (product (ps ++ (os ++ rs))).inv a ≡ (pair (product ps) (pair (product os) (product rs))).inv a
three_products_inverse {ps} {os} Ps Os rs a =
    product_append_inverse Ps (os ++ rs) a
    ∙ ap (λ (x : ℕ). (product ps).inv (a % (product ps).elements) + (product ps).elements * x) (product_append_inverse Os rs (a / (product ps).elements))

-- The generators of a product of two: the first's, and after these the second's, times the elements of the first.
pub append_first : (ps qs : List Part) {g : ℕ} → g < (product ps).generators → (product (ps ++ qs)).step 0 g ≡ (product ps).step 0 g
append_first [] qs h = absurd (omega arith)
append_first (p ∷ ps) qs {g} h = go (side p.generators (product ps).generators g h) (λ k l. append_first ps qs l) where
  go : WhichFactor p.generators (product ps).generators g
      → ((k : ℕ) → k < (product ps).generators → (product (ps ++ qs)).step 0 k ≡ (product ps).step 0 k)
      → (pair p (product (ps ++ qs))).step 0 g ≡ (pair p (product ps)).step 0 g
  go (left l) ih = element_left p (product (ps ++ qs)) l ∙ sym (element_left p (product ps) l)
  go (right k l q) ih =
      ap ((pair p (product (ps ++ qs))).step 0) q ∙ element_right p (product (ps ++ qs)) k ∙ ap (λ (x : ℕ). 0 + p.elements * x) (ih k l)
      ∙ sym (element_right p (product ps) k) ∙ ap ((pair p (product ps)).step 0) (sym q)

pub append_second : (ps qs : List Part) (g : ℕ) → (product (ps ++ qs)).step 0 ((product ps).generators + g) ≡ (product ps).elements * (product qs).step 0 g
append_second [] qs g = rw (zero-add g, one-mul ((product qs).step 0 g))
append_second (p ∷ ps) qs g =
    ap ((pair p (product (ps ++ qs))).step 0) (add_assoc p.generators (product ps).generators g)
    ∙ element_right p (product (ps ++ qs)) ((product ps).generators + g)
    ∙ zero-add (p.elements * (product (ps ++ qs)).step 0 ((product ps).generators + g))
    ∙ ap (λ (x : ℕ). p.elements * x) (append_second ps qs g) ∙ sym (mul_assoc p.elements (product ps).elements ((product qs).step 0 g))
