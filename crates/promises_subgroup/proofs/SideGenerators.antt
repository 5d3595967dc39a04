-- The generators of a subgroup with accepted groups beside it: what is asked by `generator` is what the subgroup's own generator is carried to.
use Prim.Native.Nat.{ℕ, ◌+◌, ◌*◌, ◌-◌, ◌≤◌, ◌<◌}
use mathlib.Core.Path.{◌≡◌, refl, sym, ap, ◌∙◌, subst}
use mathlib.Core.List.{List, ◌∷◌}
use native.Mathlib.Nat.{add-sub_cancel_left, le-add_right, zero-add, mul-zero, add-zero, mul_assoc}
use native.Mathlib.Omega.{arith}
use borrow.Author.Tests.{lt-ltb, le-ltb}
use lib.ListN.{length, get_or}
use Rattle.egg.specs.Answers.{fine}
use Rattle.egg.specs.Scan.{refused_of}
use Rattle.egg.specs.Factor.{refused_reach, stretch, read_step}
use Rattle.theory.specs.Table.{generator}
use Rattle.factor_laws.specs.Accepted.{factor_step, reach}
use Rattle.build_checks_laws.proofs.Accepted.{read_step_lem}
use Rattle.theory_products.specs.Product.{Part, product}
use Rattle.theory_products.proofs.ProductLaws.{product_group}
use Rattle.theory_products.proofs.StepLaws.{WhichFactor, left, right, side, element_left, element_right}
use Rattle.group_handles.specs.Handles.{handles, elements_of, generators_of}
use Rattle.group_digits.specs.Digits.{step_in}
use Rattle.promises_group.specs.Products.{part, parts, direct}
use Rattle.theory_products.proofs.WordLaws.{product_worded}
use Rattle.promises_group.proofs.Parts.{all_groups, all_worded, parts_elements, parts_generators, steps_are}
use Rattle.subgroup_build.specs.declared.Subgroup.{Subgroup}
use Rattle.subgroup_sides.specs.Sides.{sub_side, admits_sides, stride_of, over_count}
use Rattle.subgroup_sides.specs.Generators.{side_generator}
use Rattle.subgroup_sides.proofs.Counts.{sub_count}
use Rattle.subgroup_sides.proofs.SideLaws.{sides_fine, sides_argument}
use Rattle.subgroup_sides.proofs.Generators.{sub_generators_are, generator_element}
use Rattle.subgroup.proofs.IndexLaws.{within_small}
use Rattle.subgroup.specs.Questions.{generator_answer}
use Rattle.promises_subgroup.specs.Beside.{sub_direct, outward_of, Beside, SideGenerators}
use Rattle.promises_subgroup.proofs.Products.{over_parts, append_first, append_second}
use Rattle.promises_subgroup.proofs.Asked.{over_cell, maps_answer}

module _ {from gens : List ℕ} {s : Subgroup} {t i o : List ℕ} (S : Beside from gens s t i o) where
  abbrev ps : List Part
  ps = parts from (handles s.below)

  abbrev rs : List Part
  rs = parts from (handles s.above)

  abbrev own : Part
  own = part t s.factor

  abbrev k : ℕ
  k = generators_of (handles s.below)

  abbrev n : ℕ
  n = s.factor.generators

  count : generators_of (sub_side s) ≡ generators_of (handles s.below) + (s.factor.generators + generators_of (handles s.above))
  count = sym (sub_generators_are s refl refl)

  below_origin : 0 < (product (parts from (handles s.below))).elements
  below_origin = (product_group (all_groups from S.below)).laws.identity

  above_origin : 0 < (product (parts from (handles s.above))).elements
  above_origin = (product_group (all_groups from S.above)).laws.identity

  -- The generator of the subgroup's product, by its part.
  from_below : {g : ℕ} → g < k → (sub_direct from t s).step 0 g ≡ (product ps).step 0 g
  from_below {g} h = append_first ps (own ∷ rs) (subst (λ (m : ℕ). g < m) (sym (parts_generators from (handles s.below))) h)

  after_below : (g : ℕ) → (sub_direct from t s).step 0 (k + g) ≡ stride_of s * (product (own ∷ rs)).step 0 g
  after_below g =
      ap (λ (m : ℕ). (sub_direct from t s).step 0 (m + g)) (sym (parts_generators from (handles s.below)))
      ∙ append_second ps (own ∷ rs) g ∙ ap (λ (m : ℕ). m * (product (own ∷ rs)).step 0 g) (parts_elements from (handles s.below))

  from_own : {g : ℕ} → g < n → (sub_direct from t s).step 0 (k + g) ≡ stride_of s * factor_step t s.factor 0 g
  from_own {g} h =
      after_below g
      ∙ ap (λ (m : ℕ). stride_of s * m) (element_left own (product rs) h ∙ rw (mul-zero s.factor.elements) (add-zero (factor_step t s.factor 0 g)))

  from_above : (g : ℕ) → (sub_direct from t s).step 0 (k + (n + g)) ≡ stride_of s * (s.factor.elements * (product rs).step 0 g)
  from_above g =
      after_below (n + g)
      ∙ ap (λ (m : ℕ). stride_of s * m) (element_right own (product rs) g ∙ zero-add (s.factor.elements * (product rs).step 0 g))

  -- What is read for it.
  read_below : {g : ℕ} → g < k → side_generator from t s g ≡ reach ((sub_direct from t s).step 0 g)
  unfolding side_generator
  read_below {g} h =
      rw (lt-ltb g k h)
      (steps_are from S.below 0 g below_origin (subst (λ (m : ℕ). g < m) (sym (parts_generators from (handles s.below))) h) ∙ ap reach (sym (from_below h)))

  read_own : {g : ℕ} → g < n → side_generator from t s (k + g) ≡ reach ((sub_direct from t s).step 0 (k + g))
  unfolding side_generator
  read_own {g} h =
      let r : read_step (stretch t s.factor) s.factor.generators s.factor.elements 0 g ≡ reach (factor_step t s.factor 0 g) =
      read_step_lem S.holds.accepted.sound S.holds.accepted.sound.table.origin h in
      rw (le-ltb (k + g) k (le-add_right k g), add-sub_cancel_left, lt-ltb g n h, r) (ap reach (sym (from_own h)))

  read_above : {g : ℕ} → g < generators_of (handles s.above) → side_generator from t s (k + (n + g)) ≡ reach ((sub_direct from t s).step 0 (k + (n + g)))
  unfolding side_generator
  read_above {g} h =
      let r : step_in from (handles s.above) 0 g ≡ reach ((product (parts from (handles s.above))).step 0 g) =
      steps_are from S.above 0 g above_origin (subst (λ (m : ℕ). g < m) (sym (parts_generators from (handles s.above))) h) in
      let z : k + (n + g) - k ≡ n + g = add-sub_cancel_left k (n + g) in
      let y : n + g - n ≡ g = add-sub_cancel_left n g in
      rw (le-ltb (k + (n + g)) k (le-add_right k (n + g)), z, le-ltb (n + g) n (le-add_right n g), y, r)
      (ap reach (spread (stride_of s) s.factor.elements ((product (parts from (handles s.above))).step 0 g) ∙ sym (from_above g)))
    where
      spread : (a b c : ℕ) → a * b * c ≡ a * (b * c)
      spread a b c = mul_assoc a b c

  side_generator_lem : {g : ℕ} → g < generators_of (sub_side s) → side_generator from t s g ≡ reach ((sub_direct from t s).step 0 g)
  side_generator_lem {g} h = go (side k (n + generators_of (handles s.above)) g (subst (λ (m : ℕ). g < m) count h)) where
    go : WhichFactor k (n + generators_of (handles s.above)) g → side_generator from t s g ≡ reach ((sub_direct from t s).step 0 g)
    go (left l) = read_below l
    go (right x l q) =
        subst (λ (y : ℕ). side_generator from t s y ≡ reach ((sub_direct from t s).step 0 y)) (sym q) (after x (side n (generators_of (handles s.above)) x l))
      where
        after : (x : ℕ) → WhichFactor n (generators_of (handles s.above)) x → side_generator from t s (k + x) ≡ reach ((sub_direct from t s).step 0 (k + x))
        after x (left m) = read_own m
        after x (right y m p) =
            subst (λ (z : ℕ). side_generator from t s (k + z) ≡ reach ((sub_direct from t s).step 0 (k + z))) (sym p) (read_above m)

  generator_inside : {g : ℕ} → g < generators_of (sub_side s) → (sub_direct from t s).step 0 g < elements_of (sub_side s)
  generator_inside {g} h =
      generator_element from t s S.known.fits S.known.limited g {e = record { 0 = (sub_direct from t s).step 0 g }} (sym (side_generator_lem h)) refl

  asked : {g : ℕ} → g < generators_of (sub_side s) → generator_answer from t s o (record { 0 = g }) ≡ reach (outward_of s o ((sub_direct from t s).step 0 g))
  unfolding generator_answer
  asked {g} h =
      let K = S.known in
      let v : admits_sides (length from) (length t) s (length o) s.factor.elements g (generators_of (sub_side s)) ≡ fine =
      sym (sides_fine (length from) (length t) s (length o) s.factor.elements g (generators_of (sub_side s)) K.fits K.outw_long h K.limited) in
      let c : (sub_direct from t s).step 0 g < stride_of s * (s.factor.elements * elements_of (handles s.above)) =
      subst (λ (m : ℕ). (sub_direct from t s).step 0 g < m) (sub_count s) (generator_inside h) in
      rw (v, side_generator_lem h)
      (over_cell K ((sub_direct from t s).step 0 g)
      (K.carried.over_below (within_small (stride_of s) s.factor.elements (elements_of (handles s.above)) ((sub_direct from t s).step 0 g) c)))

  beyond : {g : ℕ} → generators_of (sub_side s) ≤ g → generator_answer from t s o (record { 0 = g }) ≡ refused_reach 14 0
  unfolding generator_answer
  beyond {g} h =
      let K = S.known in
      let v : admits_sides (length from) (length t) s (length o) s.factor.elements g (generators_of (sub_side s)) ≡ refused_of 14 0 0 0 =
      sym (sides_argument (length from) (length t) s (length o) s.factor.elements g (generators_of (sub_side s)) K.fits K.outw_long h) in
      rw v

  -- What the formula makes of each.
  abbrev B : ℕ
  B = stride_of s

  origin : 0 < s.factor.elements
  origin = S.holds.accepted.sound.table.origin

  stride_some : 0 < stride_of s
  stride_some = subst (λ (m : ℕ). 0 < m) (parts_elements from (handles s.below)) below_origin

  at_identity : get_or o 0 0 ≡ 0
  at_identity = S.holds.homomorphic.identity

  -- By its parts: b below, x within, a above.
  carried_parts : {b x : ℕ} → b < B → x < s.factor.elements → (a : ℕ)
      → outward_of s o (b + B * (x + s.factor.elements * a)) ≡ b + B * (get_or o x 0 + over_count s * a)
  carried_parts hb hx a = over_parts (over_count s) (λ e. get_or o e 0) hb hx a

  only_below : {b : ℕ} → b < B → outward_of s o b ≡ b
  only_below {b} hb =
      let z : b + B * (0 + s.factor.elements * 0) ≡ b = rw (mul-zero s.factor.elements) (rw (mul-zero B) (add-zero b)) in
      let y : b + B * (get_or o 0 0 + over_count s * 0) ≡ b = rw (at_identity, mul-zero (over_count s)) (rw (mul-zero B) (add-zero b)) in
      ap (outward_of s o) (sym z) ∙ carried_parts hb origin 0 ∙ y

  only_own : {x : ℕ} → x < s.factor.elements → outward_of s o (B * x) ≡ B * get_or o x 0
  only_own {x} hx =
      let z : 0 + B * (x + s.factor.elements * 0) ≡ B * x = rw (mul-zero s.factor.elements, add-zero x) (zero-add (B * x)) in
      let y : 0 + B * (get_or o x 0 + over_count s * 0) ≡ B * get_or o x 0 = rw (mul-zero (over_count s), add-zero (get_or o x 0)) (zero-add (B * get_or o x 0)) in
      ap (outward_of s o) (sym z) ∙ carried_parts stride_some hx 0 ∙ y

  only_above : (a : ℕ) → outward_of s o (B * (s.factor.elements * a)) ≡ B * (over_count s * a)
  only_above a =
      let z : 0 + B * (0 + s.factor.elements * a) ≡ B * (s.factor.elements * a) = rw (zero-add (s.factor.elements * a)) (zero-add (B * (s.factor.elements * a))) in
      let y : 0 + B * (get_or o 0 0 + over_count s * a) ≡ B * (over_count s * a) = rw (at_identity, zero-add (over_count s * a)) (zero-add (B * (over_count s * a))) in
      ap (outward_of s o) (sym z) ∙ carried_parts stride_some origin a ∙ y

  total : generators_of (sub_side s) ≡ k + (length gens + generators_of (handles s.above))
  total = count ∙ ap (λ (m : ℕ). k + (m + generators_of (handles s.above))) S.holds.count

  asked_below : {g : ℕ} → g < k → generator_answer from t s o (record { 0 = g }) ≡ reach (generator (direct from s.below).step g)
  asked_below {g} h =
      let b : (product ps).step 0 g < B = below_one h in
      asked (omega (arith, count)) ∙ ap reach (ap (outward_of s o) (from_below h) ∙ only_below b)
    where
      below_one : {g : ℕ} → g < k → (product ps).step 0 g < B
      below_one {g} h =
          subst (λ (m : ℕ). (product ps).step 0 g < m) (parts_elements from (handles s.below))
          ((product_worded (all_worded from S.below)).stepped.steps.element (subst (λ (m : ℕ). g < m) (sym (parts_generators from (handles s.below))) h))

  asked_own : {g : ℕ} → g < length gens → generator_answer from t s o (record { 0 = k + g }) ≡ reach (stride_of s * get_or gens g 0)
  asked_own {g} h =
      let l : g < n = subst (λ (m : ℕ). g < m) (sym S.holds.count) h in
      asked (omega (arith, total))
      ∙ ap reach (ap (outward_of s o) (from_own l) ∙ only_own (S.holds.accepted.sound.table.closed origin l) ∙ ap (λ (m : ℕ). stride_of s * m) (S.holds.generators h))

  asked_above : {g : ℕ} → g < generators_of (handles s.above) → generator_answer from t s o (record { 0 = k + (length gens + g) })
      ≡ reach (stride_of s * (over_count s * generator (direct from s.above).step g))
  asked_above {g} h =
      asked (omega (arith, total))
      ∙ ap reach (ap (λ (m : ℕ). outward_of s o ((sub_direct from t s).step 0 (k + (m + g)))) (sym S.holds.count) ∙ ap (outward_of s o) (from_above g)
      ∙ only_above ((product rs).step 0 g))

  pub side_generators : SideGenerators from gens t s o
  side_generators = record {
    count = total;
    carried = λ {g} h. asked h ∙ sym ((maps_answer S.known).outward (generator_inside h));
    below = λ {g} h. asked_below h;
    own = λ {g} h. asked_own h;
    above = λ {g} h. asked_above h;
    beyond = λ {g} h. beyond h;
  }
