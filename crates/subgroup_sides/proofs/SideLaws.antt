-- Laws of the refusals before a map is read, one for each answer; what is known where a question goes on; and the products with further factors.
use Rattle.std.specs.Prelude.{Ok}
use Prim.Native.Nat.{ℕ, suc, ◌+◌, ◌*◌, ◌≤◌, ◌<◌}
use mathlib.Core.Path.{◌≡◌, refl, sym, ap, ◌∙◌}
use mathlib.Core.Bool.{Bool, true, false, ◌&&◌}
use mathlib.Core.List.{◌∷◌, ◌++◌}
use native.Mathlib.Omega.{arith}
use borrow.Author.Tests.{le-leb, lt-leb, leb-true, leb-false}
use lib.ListN.{length}
use lib.Dec.{leb, ltb}
use Rattle.egg.specs.Answers.{Verdict, fine}
use Rattle.egg.specs.Scan.{refused_of}
use Rattle.egg.specs.Factor.{fits_in}
use Rattle.egg.proofs.Rooms.{and_first, and_second}
use Rattle.egg.proofs.Scans.{refused_fine}
use Rattle.group_handles.specs.declared.Group.{Group}
use Rattle.group_handles.specs.Handles.{handles, elements_of, all_fit, capped}
use Rattle.group_handles.proofs.Caps.{cap_beyond, cap_within}
use Rattle.group_handles.proofs.Joins.{fit_both}
use Rattle.group_handles.proofs.Sums.{both_length}
use Rattle.subgroup_build.specs.declared.Subgroup.{Subgroup}
use Rattle.subgroup_build.specs.Answers.{Subgrouped}
use Rattle.subgroup_sides.specs.Sides.{over_side, sub_side, sides_fit, few_factors, limited_by, sides_limited, admits_sides, put_left, put_right, refused_subgroup, if_limited, joinable, multiplied, left_product, right_product}
use Rattle.subgroup_sides.proofs.Counts.{around_is, over_elements_is, sub_elements_is}

-- 17 in the handles.
module _ (from table : ℕ) (s : Subgroup) where
  pub fit_law : sides_fit from table s
      ≡ fits_in table s.factor && (all_fit from (handles s.below) && (all_fit from (handles s.over) && all_fit from (handles s.above)))
  unfolding sides_fit
  fit_law = rw (fit_both from (handles s.below) (handles s.over ++ handles s.above), fit_both from (handles s.over) (handles s.above))

  pub fit_factor : fits_in table s.factor ≡ false → false ≡ sides_fit from table s
  fit_factor e = sym (fit_law ∙ rw e)

  module _ (f : fits_in table s.factor ≡ true) where
    pub fit_below : all_fit from (handles s.below) ≡ false → false ≡ sides_fit from table s
    fit_below e = sym (fit_law ∙ rw (f, e))

    module _ (b : all_fit from (handles s.below) ≡ true) where
      pub fit_over : all_fit from (handles s.over) ≡ false → false ≡ sides_fit from table s
      fit_over e = sym (fit_law ∙ rw (f, b, e))

      pub fit_above : all_fit from (handles s.over) ≡ true → all_fit from (handles s.above) ≡ sides_fit from table s
      fit_above e = sym (fit_law ∙ rw (f, b, e))

-- 15.
module _ (s : Subgroup) where
  pub few_below : 8 < s.below.count → false ≡ few_factors s
  unfolding few_factors
  few_below h = rw (lt-leb s.below.count 8 h)

  module _ (b : s.below.count ≤ 8) where
    pub few_over : 8 < s.over.count → false ≡ few_factors s
    unfolding few_factors
    few_over h = rw (le-leb s.below.count 8 b, lt-leb s.over.count 8 h)

    module _ (o : s.over.count ≤ 8) where
      pub few_above : 8 < s.above.count → false ≡ few_factors s
      unfolding few_factors
      few_above h = rw (le-leb s.below.count 8 b, le-leb s.over.count 8 o, lt-leb s.above.count 8 h)

      module _ (a : s.above.count ≤ 8) {x y z : ℕ} (p : x ≡ length (handles s.below)) (q : y ≡ length (handles s.above))
          (r : z ≡ length (handles s.over)) where
        over_length : length (over_side s) ≡ x + y + z
        over_length =
            let u : length (over_side s) ≡ length (handles s.below) + length (handles s.over ++ handles s.above) =
            both_length (handles s.below) (handles s.over ++ handles s.above) in
            let v : length (handles s.over ++ handles s.above) ≡ length (handles s.over) + length (handles s.above) =
            both_length (handles s.over) (handles s.above) in
            omega arith

        sub_length : length (sub_side s) ≡ suc (x + y)
        sub_length =
            let u : length (sub_side s) ≡ length (handles s.below) + suc (length (handles s.above)) =
            both_length (handles s.below) (s.factor ∷ handles s.above) in
            omega arith

        pub few_long : 8 < x + y + z → false ≡ few_factors s
        unfolding few_factors
        few_long h =
            rw (le-leb s.below.count 8 b, le-leb s.over.count 8 o, le-leb s.above.count 8 a, over_length, lt-leb (x + y + z) 8 h)

        pub few_last : x + y + z ≤ 8 → ltb (x + y) 8 ≡ few_factors s
        unfolding few_factors
        few_last h =
            rw (le-leb s.below.count 8 b, le-leb s.over.count 8 o, le-leb s.above.count 8 a, over_length, le-leb (x + y + z) 8 h, sub_length)

  pub limited_sides : {k : Bool} {x y z : ℕ} → k ≡ few_factors s → x ≡ capped (elements_of (handles s.below)) → y ≡ capped (elements_of (handles s.over))
      → z ≡ capped (elements_of (handles s.above)) → limited_by k x s.factor.elements y z ≡ sides_limited s
  unfolding limited_by sides_limited
  limited_sides {k} {x} {y} {z} q low middle high =
      let over : capped (x * capped (y * z)) ≡ capped (elements_of (over_side s)) =
      over_elements_is s {m = y} middle (around_is (elements_of (handles s.below)) y (elements_of (handles s.above)) high refl low refl) in
      let sub : capped (x * capped (s.factor.elements * z)) ≡ capped (elements_of (sub_side s)) =
      sub_elements_is s (around_is (elements_of (handles s.below)) s.factor.elements (elements_of (handles s.above)) high refl low refl) in
      rw (q, cap_within (elements_of (over_side s)) over, cap_within (elements_of (sub_side s)) sub)

  module _ (h : sides_limited s ≡ true) where
    pub over_within : elements_of (over_side s) ≤ 4294967295
    unfolding sides_limited
    over_within = leb-true _ _ (and_first _ _ (and_second (few_factors s) _ h))

    pub sub_within : elements_of (sub_side s) ≤ 4294967295
    unfolding sides_limited
    sub_within = leb-true _ _ (and_second (leb (elements_of (over_side s)) 4294967295) _ (and_second (few_factors s) _ h))

-- 15 by the numbers of elements.
module _ (few : Bool) (below within over above : ℕ) where
  pub limited_few : few ≡ false → false ≡ limited_by few below within over above
  unfolding limited_by
  limited_few e = rw e

  module _ (e : few ≡ true) {r : ℕ} (p : r ≡ capped (below * capped (over * above))) where
    pub limited_over : 4294967295 < r → false ≡ limited_by few below within over above
    unfolding limited_by
    limited_over h =
        let z : leb (capped (below * capped (over * above))) 4294967295 ≡ false = ap (λ (k : ℕ). leb k 4294967295) (sym p) ∙ lt-leb _ _ h in
        rw (e, z)

    pub limited_sub : r ≤ 4294967295 → {t : ℕ} → t ≡ capped (below * capped (within * above)) → leb t 4294967295 ≡ limited_by few below within over above
    unfolding limited_by
    limited_sub h {t} u =
        let z : leb (capped (below * capped (over * above))) 4294967295 ≡ true = ap (λ (k : ℕ). leb k 4294967295) (sym p) ∙ le-leb _ _ h in
        rw (e, z, u)

-- 17, 14, 15 in this order.
module _ (from table : ℕ) (s : Subgroup) (map need a la : ℕ) where
  pub sides_handle : sides_fit from table s ≡ false → refused_of 17 0 0 0 ≡ admits_sides from table s map need a la
  unfolding admits_sides
  sides_handle h = rw h

  module _ (fits : sides_fit from table s ≡ true) where
    pub sides_map : map < need → refused_of 17 0 0 0 ≡ admits_sides from table s map need a la
    unfolding admits_sides
    sides_map h = rw (fits, lt-leb need map h)

    module _ (long : need ≤ map) where
      pub sides_argument : la ≤ a → refused_of 14 0 0 0 ≡ admits_sides from table s map need a la
      unfolding admits_sides
      sides_argument h = rw (fits, le-leb need map long, le-leb la a h)

      module _ (below : a < la) where
        pub sides_large : sides_limited s ≡ false → refused_of 15 0 0 0 ≡ admits_sides from table s map need a la
        unfolding admits_sides
        sides_large z = rw (fits, le-leb need map long, lt-leb la a below, z)

        pub sides_fine : sides_limited s ≡ true → fine ≡ admits_sides from table s map need a la
        unfolding admits_sides
        sides_fine z = rw (fits, le-leb need map long, lt-leb la a below, z)

-- Where a question goes on.
pub record Asks (from table : ℕ) (s : Subgroup) (map need a la : ℕ) : Type 0 where
  pub fits : sides_fit from table s ≡ true
  pub long : need ≤ map
  pub argument : a < la
  pub limited : sides_limited s ≡ true

module _ (from table : ℕ) (s : Subgroup) (map need a la : ℕ) where
  pub asks : admits_sides from table s map need a la ≡ fine → Asks from table s map need a la
  asks q = by (sides_fit from table s) (leb need map) (leb la a) (sides_limited s) refl refl refl refl where
    by : (w x y z : Bool) → sides_fit from table s ≡ w → leb need map ≡ x → leb la a ≡ y → sides_limited s ≡ z → Asks from table s map need a la
    by false x y z p h k l = absurd (refused_fine (sides_handle from table s map need a la p ∙ q))
    by true false y z p h k l = absurd (refused_fine (sides_map from table s map need a la p (leb-false _ _ h) ∙ q))
    by true true true z p h k l = absurd (refused_fine (sides_argument from table s map need a la p (leb-true _ _ h) (leb-true _ _ k) ∙ q))
    by true true false false p h k l =
        absurd (refused_fine (sides_large from table s map need a la p (leb-true _ _ h) (leb-false _ _ k) l ∙ q))
    by true true false true p h k l = record { fits = p; long = leb-true _ _ h; argument = leb-false _ _ k; limited = l }

  pub asks_by : {v : Verdict} → v ≡ admits_sides from table s map need a la → v ≡ fine → Asks from table s map need a la
  asks_by q e = asks (sym q ∙ e)

-- A limit, and the length of a map, as far as 32 bits can tell.
pub sides_capped : (from table : ℕ) (s : Subgroup) (map : ℕ) {need m : ℕ} (a n : ℕ) {need' : ℕ} → a < 4294967296 → need ≡ need' → m ≡ capped n → {v : Verdict}
    → v ≡ admits_sides from table s map need a m → v ≡ admits_sides from table s map need' a n
unfolding admits_sides
sides_capped from table s map a n h e p q = q ∙ rw (e, p, cap_beyond n a h)

-- Products.
module _ (g h : Group) where
  pub join_first : 8 < g.count → false ≡ joinable g h
  unfolding joinable
  join_first k = rw (lt-leb g.count 8 k)

  module _ (a : g.count ≤ 8) where
    pub join_second : 8 < h.count → false ≡ joinable g h
    unfolding joinable
    join_second k = rw (le-leb g.count 8 a, lt-leb h.count 8 k)

    pub join_both : h.count ≤ 8 → {x y : ℕ} → x ≡ length (handles g) → y ≡ length (handles h) → leb (x + y) 8 ≡ joinable g h
    unfolding joinable
    join_both k p q = rw (le-leb g.count 8 a, le-leb h.count 8 k, p, q)

  pub join_fits : joinable g h ≡ true → length (handles g) + length (handles h) ≤ 8
  unfolding joinable
  join_fits e = leb-true _ _ (and_second (leb h.count 8) _ (and_second (leb g.count 8) _ e))

  module _ (t : Subgroup) where
    pub multiplied_no : joinable g h ≡ false → refused_subgroup 15 ≡ multiplied g h t
    unfolding multiplied
    multiplied_no e = rw e

    pub multiplied_is : {x : Subgroup} {r : Subgrouped} → joinable g h ≡ true → x ≡ t → r ≡ if_limited x → r ≡ multiplied g h t
    unfolding multiplied
    multiplied_is e p q = q ∙ rw (e, p)

pub limit_no : (s : Subgroup) → sides_limited s ≡ false → refused_subgroup 15 ≡ if_limited s
unfolding if_limited
limit_no s e = rw e

pub limit_fine : (s : Subgroup) → sides_limited s ≡ true → Ok s ≡ if_limited s
unfolding if_limited
limit_fine s e = rw e

module _ (from table : ℕ) (g : Group) (s : Subgroup) where
  pub left_handle : sides_fit from table s ≡ false → refused_subgroup 17 ≡ left_product from table g s
  unfolding left_product
  left_handle e = rw e

  pub right_handle : sides_fit from table s ≡ false → refused_subgroup 17 ≡ right_product from table s g
  unfolding right_product
  right_handle e = rw e

  module _ (f : sides_fit from table s ≡ true) where
    pub left_group : all_fit from (handles g) ≡ false → refused_subgroup 17 ≡ left_product from table g s
    unfolding left_product
    left_group e = rw (f, e)

    pub right_group : all_fit from (handles g) ≡ false → refused_subgroup 17 ≡ right_product from table s g
    unfolding right_product
    right_group e = rw (f, e)

    pub left_is : all_fit from (handles g) ≡ true → multiplied g s.below (put_left g s) ≡ left_product from table g s
    unfolding left_product
    left_is e = rw (f, e)

    pub right_is : all_fit from (handles g) ≡ true → multiplied s.above g (put_right s g) ≡ right_product from table s g
    unfolding right_product
    right_is e = rw (f, e)
