-- A subgroup as it was made, by generators or by a predicate, with accepted factors beside it: the index formula carries the direct product of the subgroup's side to
-- that of the overgroup's. And what `product_left` and `product_right` hand back is such a subgroup again.
use Rattle.std.specs.Prelude.{Ok}
use Prim.Native.Nat.{ℕ, ◌+◌, ◌*◌, ◌≤◌, ◌<◌}
use mathlib.Core.Path.{◌≡◌, refl, sym, ap, ◌∙◌, subst}
use mathlib.Core.Bool.{Bool, true, ◌&&◌}
use mathlib.Core.List.{List, [], ◌∷◌, ◌++◌, append_assoc}
use lib.Dec.{leb}
use lib.ListN.{length, get_or}
use borrow.Author.Tests.{leb-true, le-leb}
use Rattle.egg.specs.declared.Factor.{Factor}
use Rattle.egg.proofs.Rooms.{and_first, and_second}
use Rattle.build_checks_laws.proofs.Accepted.{sound_group}
use Rattle.theory_products.specs.Product as theory
use Rattle.theory_products.specs.Product.{Part, pair, product, Each, IsGroup}
use Rattle.theory_radix.proofs.RadixLaws.{joined_small}
use Rattle.theory_products.proofs.ProductLaws.{product_group}
use Rattle.factor_laws.specs.Accepted.{reach}
use Rattle.group_handles.specs.declared.Group.{Group}
use Rattle.group_handles.specs.Handles.{handles, elements_of, all_fit, group_of, joins}
use Rattle.group_handles.proofs.Admitted.{few_factors_lem}
use Rattle.group_handles.proofs.Joins.{handles_of}
use Rattle.promises_group.specs.Products as products
use Rattle.promises_group.specs.Products.{part, parts, AllAccepted, AcceptedProduct}
use Rattle.promises_group.proofs.Parts.{all_groups, all_fit_lem, parts_elements}
use Rattle.promises_group.proofs.Made.{grouped, all_both}
use Rattle.subgroup_build.specs.declared.Subgroup.{Subgroup}
use Rattle.subgroup_sides.specs.Sides.{over_side, sub_side, sides_limited, few_factors, stride_of, over_count, put_left, put_right, left_product, right_product}
use Rattle.subgroup_sides.proofs.Counts.{elements_append, over_count_lem, sub_count}
use Rattle.subgroup_sides.proofs.SideLaws.{over_within}
use Rattle.subgroup.specs.Indices.{over_of}
use Rattle.subgroup.specs.Questions.{to_over_answer}
use Rattle.promises_subgroup.specs.Carried.{MapsUndo, Homomorphic}
use Rattle.promises_subgroup.specs.Generates.{SubgroupHolds}
use Rattle.promises_subgroup.specs.Asked.{Askable}
use Rattle.promises_subgroup.specs.Beside.{over_group, sub_direct, outward_of, Beside, MultipliedLeft, MultipliedRight}
use Rattle.promises_subgroup.proofs.Products.{homomorphic_product, product_append, product_append_inverse, three_products, three_products_inverse, append_elements, left_product_lem, right_product_lem}
use Rattle.promises_subgroup.proofs.Asked.{left_known, right_known, left_value, right_value, maps_answer, reach_once}

pub parts_append : (t : List ℕ) (xs ys : List Factor) → parts t (xs ++ ys) ≡ parts t xs ++ parts t ys
parts_append t [] ys = refl
parts_append t (x ∷ xs) ys = ap (λ (l : List Part). part t x ∷ l) (parts_append t xs ys)

each_both : {P : Part → Type 0} {ps qs : List Part} → Each P ps → Each P qs → Each P (ps ++ qs)
each_both theory.none Q = Q
each_both (theory.more p P) Q = theory.more p (each_both P Q)

-- At most 8 factors on either side.
module _ (s : Subgroup) (h : sides_limited s ≡ true) where
  abbrev lengths : Bool
  lengths = leb (length (over_side s)) 8 && leb (length (sub_side s)) 8

  few : leb s.below.count 8 && (leb s.over.count 8 && (leb s.above.count 8 && lengths)) ≡ true
  unfolding sides_limited few_factors
  few = and_first _ _ h

  few_lengths : lengths ≡ true
  few_lengths = and_second (leb s.above.count 8) _ (and_second (leb s.over.count 8) _ (and_second (leb s.below.count 8) _ few))

  few_over_side : length (over_side s) ≤ 8
  few_over_side = leb-true _ _ (and_first (leb (length (over_side s)) 8) _ few_lengths)

  pub few_sub_side : length (sub_side s) ≤ 8
  few_sub_side = leb-true _ _ (and_second (leb (length (over_side s)) 8) _ few_lengths)

module _ {from gens : List ℕ} {s : Subgroup} {t i o : List ℕ} (S : Beside from gens s t i o) where
  abbrev ps : List Part
  ps = parts from (handles s.below)

  abbrev os : List Part
  os = parts from (handles s.over)

  abbrev rs : List Part
  rs = parts from (handles s.above)

  abbrev own : Part
  own = part t s.factor

  abbrev N : ℕ
  N = s.factor.elements

  own_group : IsGroup (part t s.factor)
  own_group = record { laws = sound_group S.holds.accepted.sound }

  pub sub_groups : IsGroup (sub_direct from t s)
  sub_groups = product_group (each_both (all_groups from S.below) (theory.more own_group (all_groups from S.above)))

  pub sub_size : (sub_direct from t s).elements ≡ elements_of (sub_side s)
  sub_size =
      append_elements (parts from (handles s.below)) (part t s.factor ∷ parts from (handles s.above))
      ∙ rw (parts_elements from (handles s.below), parts_elements from (handles s.above)) (sym (sub_count s))

  -- The overgroup is a product of accepted factors.
  pub over_accepted : AcceptedProduct from (over_group s)
  over_accepted =
      grouped from (over_side s) (all_both S.below (all_both S.over S.above)) (few_over_side s S.known.limited) (over_within s S.known.limited)

  over_parts : parts from (over_side s) ≡ parts from (handles s.below) ++ (parts from (handles s.over) ++ parts from (handles s.above))
  over_parts =
      parts_append from (handles s.below) (handles s.over ++ handles s.above)
      ∙ ap (λ (l : List Part). parts from (handles s.below) ++ l) (parts_append from (handles s.over) (handles s.above))

  abbrev inner : Part
  inner = pair (product ps) (pair own (product rs))

  abbrev outer : Part
  outer = pair (product ps) (pair (product os) (product rs))

  abbrev formula : ℕ → ℕ
  formula = over_of (product ps).elements (product os).elements N (λ e. get_or o e 0)

  nested : Homomorphic ((product ps).elements * (N * (product rs).elements)) inner.op inner.inv outer.op outer.inv formula
  nested =
      let C : MapsUndo (product (parts from (handles s.over))).elements s.factor.elements (λ e. get_or o e 0) (λ x. get_or i x 0) =
      rw (parts_elements from (handles s.over)) S.holds.carried in
      homomorphic_product (product ps) (product os) own (product rs) (product_group (all_groups from S.below)) (product_group (all_groups from S.over))
      own_group (product_group (all_groups from S.above)) C S.holds.homomorphic

  formula_is : (e : ℕ) → outward_of s o e ≡ formula e
  formula_is e = rw (parts_elements from (handles s.below), parts_elements from (handles s.over))

  sub_op : (a b : ℕ) → (sub_direct from t s).op a b ≡ inner.op a b
  sub_op a b = product_append (all_groups from S.below) (own ∷ rs) a b

  sub_inv : (a : ℕ) → (sub_direct from t s).inv a ≡ inner.inv a
  sub_inv a = product_append_inverse (all_groups from S.below) (own ∷ rs) a

  over_op : (x y : ℕ) → (product (parts from (over_side s))).op x y ≡ outer.op x y
  over_op x y = ap (λ (l : List Part). (product l).op x y) over_parts ∙ three_products (all_groups from S.below) (all_groups from S.over) rs x y

  over_inv : (x : ℕ) → (product (parts from (over_side s))).inv x ≡ outer.inv x
  over_inv x = ap (λ (l : List Part). (product l).inv x) over_parts ∙ three_products_inverse (all_groups from S.below) (all_groups from S.over) rs x

  inside : {a : ℕ} → a < elements_of (sub_side s) → a < (product ps).elements * (N * (product rs).elements)
  inside {a} h =
      subst (λ (k : ℕ). a < k) (sym sub_size ∙ append_elements (parts from (handles s.below)) (part t s.factor ∷ parts from (handles s.above))) h

  pub sides_homomorphic : Homomorphic (elements_of (sub_side s)) (sub_direct from t s).op (sub_direct from t s).inv (product (parts from (over_side s))).op
      (product (parts from (over_side s))).inv (outward_of s o)
  sides_homomorphic = record {
    identity = formula_is 0 ∙ nested.identity;
    composes = λ {a} {b} ha hb.
        ap (outward_of s o) (sub_op a b) ∙ formula_is (inner.op a b) ∙ nested.composes (inside ha) (inside hb)
        ∙ sym (over_op (outward_of s o a) (outward_of s o b) ∙ ap (λ (x : ℕ). outer.op x (outward_of s o b)) (formula_is a) ∙ ap (outer.op (formula a)) (formula_is b));
    inverts = λ {a} ha.
        ap (outward_of s o) (sub_inv a) ∙ formula_is (inner.inv a) ∙ nested.inverts (inside ha)
        ∙ sym (over_inv (outward_of s o a) ∙ ap outer.inv (formula_is a));
  }

-- As it was made, there is nothing beside it.
module _ {from : List ℕ} {over : Group} {gens : List ℕ} {s : Subgroup} {t i o : List ℕ} (H : SubgroupHolds from over gens s t i o) (As : AllAccepted from (handles over))
    (known : Askable (length from) (length t) s i o) where
  pub made_beside : Beside from gens s t i o
  made_beside = subst (λ (x : Subgroup). Beside from gens x t i o) (sym H.value) (record {
    holds = subst (λ (x : Subgroup). SubgroupHolds from over gens x t i o) H.value H;
    over = As;
    below = products.none;
    above = products.none;
    known = subst (λ (x : Subgroup). Askable (length from) (length t) x i o) H.value known;
  })

-- `product` of two groups of accepted factors that together are within the limits.
joins_so : (from : List ℕ) (a b : Group) {l : List Factor} → AcceptedProduct from a → AcceptedProduct from b → handles a ++ handles b ≡ l → length l ≤ 8
    → elements_of l ≤ 4294967295 → joins (length from) a b ≡ Ok (group_of l)
unfolding joins
joins_so from a b {l} A B e h k =
    let f : all_fit (length from) l ≡ true =
    subst (λ (x : List Factor). all_fit (length from) x ≡ true) e (all_fit_lem from (all_both A.factors B.factors)) in
    rw (e, f, le-leb a.count 8 (few_factors_lem a A.within), le-leb b.count 8 (few_factors_lem b B.within), le-leb (length l) 8 h, le-leb (elements_of l) 4294967295 k)

-- With a further group at the left.
module _ {from gens : List ℕ} {s : Subgroup} {t i o : List ℕ} (S : Beside from gens s t i o) {g : Group} (A : AcceptedProduct from g) where
  left_over : over_side (put_left g s) ≡ handles g ++ over_side s
  left_over = ap (λ (l : List Factor). l ++ (handles s.over ++ handles s.above)) (handles_of (handles g ++ handles s.below))
      ∙ append_assoc (handles g) (handles s.below) (handles s.over ++ handles s.above)

  left_sub : sub_side (put_left g s) ≡ handles g ++ sub_side s
  left_sub = ap (λ (l : List Factor). l ++ (s.factor ∷ handles s.above)) (handles_of (handles g ++ handles s.below))
      ∙ append_assoc (handles g) (handles s.below) (s.factor ∷ handles s.above)

  left_stride : stride_of (put_left g s) ≡ elements_of (handles g) * stride_of s
  left_stride = ap elements_of (handles_of (handles g ++ handles s.below)) ∙ elements_append (handles g) (handles s.below)

  module _ {r : Subgroup} (q : left_product (length from) (length t) g s ≡ Ok r) where
    left_is : r ≡ put_left g s
    left_is = left_value (length from) (length t) s g q

    beside_left : Beside from gens (put_left g s) t i o
    beside_left = record {
      holds = S.holds;
      over = S.over;
      below = subst (AllAccepted from) (sym (handles_of (handles g ++ handles s.below))) (all_both A.factors S.below);
      above = S.above;
      known = subst (λ (x : Subgroup). Askable (length from) (length t) x i o) left_is (left_known S.known g q);
    }

    pub left_beside : Beside from gens r t i o
    left_beside = subst (λ (x : Subgroup). Beside from gens x t i o) (sym left_is) beside_left

    left_out : {b e x : ℕ} → b < elements_of (handles g) → e < elements_of (sub_side s)
        → to_over_answer (length from) (length t) s o (record { 0 = e }) ≡ reach x
        → to_over_answer (length from) (length t) (put_left g s) o (record { 0 = b + elements_of (handles g) * e }) ≡ reach (b + elements_of (handles g) * x)
    left_out {b} {e} {x} hb he z =
        let y : over_of (stride_of s) (over_count s) s.factor.elements (λ k. get_or o k 0) e ≡ x = reach_once (sym ((maps_answer S.known).outward he) ∙ z) in
        let w : b + elements_of (handles g) * e < elements_of (sub_side (put_left g s)) = within_left b e hb he in
        (maps_answer beside_left.known).outward w
        ∙ ap reach (ap (λ (k : ℕ). over_of k (over_count s) s.factor.elements (λ k. get_or o k 0) (b + elements_of (handles g) * e)) left_stride
        ∙ left_product_lem (stride_of s) (over_count s) s.factor.elements (elements_of (handles s.above)) (λ k. get_or o k 0) e hb (subst (λ (k : ℕ). e < k) (sub_count s) he)
        ∙ ap (λ (k : ℕ). b + elements_of (handles g) * k) y)
      where
        within_left : (b e : ℕ) → b < elements_of (handles g) → e < elements_of (sub_side s) → b + elements_of (handles g) * e < elements_of (sub_side (put_left g s))
        within_left b e hb he =
            subst (λ (k : ℕ). b + elements_of (handles g) * e < k) (sym (ap elements_of left_sub ∙ elements_append (handles g) (sub_side s))) (joined_small hb e he)

    pub left_multiplied : MultipliedLeft from t g s r o
    left_multiplied = subst (λ (x : Subgroup). MultipliedLeft from t g s x o) (sym left_is) (record {
      value = refl;
      overgroup = joins_so from g (over_group s) A (over_accepted S) (ap (λ (l : List Factor). handles g ++ l) (handles_of (over_side s)) ∙ sym left_over)
          (few_over_side (put_left g s) beside_left.known.limited) (over_within (put_left g s) beside_left.known.limited);
      side = left_sub;
      outward = left_out;
    })

-- And at the right.
module _ {from gens : List ℕ} {s : Subgroup} {t i o : List ℕ} (S : Beside from gens s t i o) {g : Group} (A : AcceptedProduct from g) where
  right_over : over_side (put_right s g) ≡ over_side s ++ handles g
  right_over =
      ap (λ (l : List Factor). handles s.below ++ (handles s.over ++ l)) (handles_of (handles s.above ++ handles g))
      ∙ ap (λ (l : List Factor). handles s.below ++ l) (sym (append_assoc (handles s.over) (handles s.above) (handles g)))
      ∙ sym (append_assoc (handles s.below) (handles s.over ++ handles s.above) (handles g))

  right_sub : sub_side (put_right s g) ≡ sub_side s ++ handles g
  right_sub =
      ap (λ (l : List Factor). handles s.below ++ (s.factor ∷ l)) (handles_of (handles s.above ++ handles g))
      ∙ sym (append_assoc (handles s.below) (s.factor ∷ handles s.above) (handles g))

  module _ {r : Subgroup} (q : right_product (length from) (length t) s g ≡ Ok r) where
    right_is : r ≡ put_right s g
    right_is = right_value (length from) (length t) s g q

    beside_right : Beside from gens (put_right s g) t i o
    beside_right = record {
      holds = S.holds;
      over = S.over;
      below = S.below;
      above = subst (AllAccepted from) (sym (handles_of (handles s.above ++ handles g))) (all_both S.above A.factors);
      known = subst (λ (x : Subgroup). Askable (length from) (length t) x i o) right_is (right_known S.known g q);
    }

    pub right_beside : Beside from gens r t i o
    right_beside = subst (λ (x : Subgroup). Beside from gens x t i o) (sym right_is) beside_right

    right_out : {e d x : ℕ} → e < elements_of (sub_side s) → d < elements_of (handles g)
        → to_over_answer (length from) (length t) s o (record { 0 = e }) ≡ reach x
        → to_over_answer (length from) (length t) (put_right s g) o (record { 0 = e + elements_of (sub_side s) * d }) ≡ reach (x + elements_of (over_side s) * d)
    right_out {e} {d} {x} he hd z =
        let y : over_of (stride_of s) (over_count s) s.factor.elements (λ k. get_or o k 0) e ≡ x = reach_once (sym ((maps_answer S.known).outward he) ∙ z) in
        (maps_answer beside_right.known).outward (within_right e d he hd)
        ∙ ap reach (ap (λ (k : ℕ). outward_of s o (e + k * d)) (sub_count s)
        ∙ right_product_lem (stride_of s) (over_count s) s.factor.elements (elements_of (handles s.above)) (λ k. get_or o k 0) e (subst (λ (k : ℕ). e < k) (sub_count s) he) d
        ∙ ap (λ (k : ℕ). outward_of s o e + k * d) (sym (over_count_lem s)) ∙ ap (λ (k : ℕ). k + elements_of (over_side s) * d) y)
      where
        within_right : (e d : ℕ) → e < elements_of (sub_side s) → d < elements_of (handles g) → e + elements_of (sub_side s) * d < elements_of (sub_side (put_right s g))
        within_right e d he hd =
            subst (λ (k : ℕ). e + elements_of (sub_side s) * d < k) (sym (ap elements_of right_sub ∙ elements_append (sub_side s) (handles g))) (joined_small he d hd)

    pub right_multiplied : MultipliedRight from t s g r o
    right_multiplied = subst (λ (x : Subgroup). MultipliedRight from t s g x o) (sym right_is) (record {
      value = refl;
      overgroup = joins_so from (over_group s) g (over_accepted S) A (ap (λ (l : List Factor). l ++ handles g) (handles_of (over_side s)) ∙ sym right_over)
          (few_over_side (put_right s g) beside_right.known.limited) (over_within (put_right s g) beside_right.known.limited);
      side = right_sub;
      outward = right_out;
    })
