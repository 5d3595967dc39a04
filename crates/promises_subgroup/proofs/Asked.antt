-- The answers of the questions are those of the index formulas; a subgroup as it was made is known, and so is its product with a further group.
use Rattle.std.specs.Prelude.{Ok}
use Rattle.egg.specs.Answers.{answer_of}
use Prim.Native.Nat.{ℕ, ◌*◌, ◌/◌, ◌%◌, ◌≤◌, ◌<◌}
use mathlib.Core.Path.{◌≡◌, refl, sym, ap, ◌∙◌, subst}
use mathlib.Core.Bool.{Bool, true, false, ◌&&◌}
use mathlib.Core.List.{List, ◌++◌}
use borrow.Author.Tests.{lt-ltb, eq-eqb, ne_eqb, eqb-true, eqb-false}
use lib.Dec.{eqb}
use lib.ListN.{length, get_or}
use Rattle.egg.specs.Answers.{fine}
use Rattle.egg.specs.Table.{pick}
use Rattle.egg.specs.Factor.{fits_in}
use Rattle.egg.proofs.Rooms.{and_first, and_second}
use Rattle.egg.proofs.Scans.{refused_fine}
use Rattle.factor_laws.specs.Accepted.{reach}
use Rattle.group_handles.specs.declared.Group.{Group}
use Rattle.group_handles.specs.Handles.{handles, elements_of, all_fit, capped}
use Rattle.group_handles.proofs.Caps.{cap_small}
use Rattle.group_handles.proofs.Joins.{fit_both, handles_of}
use Rattle.build_numbering.specs.Renumber as appear
use Rattle.build_numbering_laws.specs.Source.{answered}
use Rattle.subgroup_build.specs.declared.Subgroup.{Subgroup}
use Rattle.subgroup_build.specs.Answers.{Subgrouped}
use Rattle.subgroup.specs.Indices.{over_of, sub_of}
use Rattle.subgroup_sides.specs.Sides.{over_side, sub_side, sides_fit, sides_limited, admits_sides, put_left, put_right, refused_subgroup, if_limited, joinable, multiplied, left_product, right_product}
use Rattle.subgroup.specs.Questions.{within_paper, carried_over, carried_back, to_over_answer, to_sub_answer}
use Rattle.subgroup_sides.proofs.Counts.{over_count_lem, sub_count, second_small}
use Rattle.subgroup.proofs.IndexLaws.{within_small}
use Rattle.subgroup.proofs.Carries.{first_some, third_some}
use Rattle.subgroup_sides.proofs.SideLaws.{fit_law, sides_fine, over_within, sub_within}
use Rattle.promises_subgroup.specs.Carried.{MapsUndo}
use Rattle.promises_subgroup.specs.Asked.{Askable, MapAnswers}
use Rattle.promises_subgroup.proofs.Called.{same_subgroup}
use Rattle.promises_subgroup.proofs.Carrying.{carried_product}

module _ {from table : ℕ} {s : Subgroup} {inn outw : List ℕ} (K : Askable from table s inn outw) where
  abbrev B : ℕ
  B = elements_of (handles s.below)

  abbrev M : ℕ
  M = elements_of (handles s.over)

  abbrev N : ℕ
  N = s.factor.elements

  abbrev A : ℕ
  A = elements_of (handles s.above)

  sub_small : B * (N * A) ≤ 4294967295
  sub_small = subst (λ (k : ℕ). k ≤ 4294967295) (sub_count s) (sub_within s K.limited)

  over_small : B * (M * A) ≤ 4294967295
  over_small = subst (λ (k : ℕ). k ≤ 4294967295) (over_count_lem s) (over_within s K.limited)

  pub over_cell : (e : ℕ) → get_or outw (e / B % N) 0 < M → carried_over s outw e ≡ reach (over_of B M N (λ i. get_or outw i 0) e)
  unfolding carried_over
  over_cell e h = rw (lt-ltb (get_or outw (e / B % N) 0) M h)

  outward : {e : ℕ} → e < elements_of (sub_side s)
      → to_over_answer from table s outw (record { 0 = e }) ≡ reach (over_of B M N (λ i. get_or outw i 0) e)
  unfolding to_over_answer
  outward {e} h =
      let v : admits_sides from table s (length outw) N e (elements_of (sub_side s)) ≡ fine =
      sym (sides_fine from table s (length outw) N e (elements_of (sub_side s)) K.fits K.outw_long h K.limited) in
      let c : e < B * (N * A) = subst (λ (k : ℕ). e < k) (sub_count s) h in
      rw v (over_cell e (K.carried.over_below (within_small B N A e c)))

  back_none : (x : ℕ) → get_or inn (x / B % M) 0 ≡ appear.no_number
      → within_paper (carried_back s inn x) ≡ record { number = 0; a = sub_of B M N (λ i. get_or inn i 0) x; b = 0; c = 0 }
  unfolding carried_back
  back_none x e = rw (eq-eqb (get_or inn (x / B % M) 0) appear.no_number e)

  back_some : (x : ℕ) → ¬ (get_or inn (x / B % M) 0 ≡ appear.no_number) → get_or inn (x / B % M) 0 < N
      → within_paper (carried_back s inn x) ≡ record { number = 0; a = sub_of B M N (λ i. get_or inn i 0) x; b = 0; c = 0 }
  unfolding carried_back
  back_some x e h = rw (ne_eqb (get_or inn (x / B % M) 0) appear.no_number e, lt-ltb (get_or inn (x / B % M) 0) N h)

  inward : {x : ℕ} → x < elements_of (over_side s)
      → within_paper (to_sub_answer from table s inn (record { 0 = x })) ≡ record { number = 0; a = sub_of B M N (λ i. get_or inn i 0) x; b = 0; c = 0 }
  unfolding to_sub_answer
  inward {x} h =
      let c : x < B * (M * A) = subst (λ (k : ℕ). x < k) (over_count_lem s) h in
      let m : capped M ≡ M = cap_small (second_small B M A (first_some B M A x c) (third_some B M A x c) over_small) in
      let l : capped M ≤ length inn = rw m K.inn_long in
      let v : admits_sides from table s (length inn) (capped M) x (elements_of (over_side s)) ≡ fine =
      sym (sides_fine from table s (length inn) (capped M) x (elements_of (over_side s)) K.fits l h K.limited) in
      rw v (by c (eqb (get_or inn (x / B % M) 0) appear.no_number) refl)
    where
      by : x < B * (M * A) → (b : Bool) → eqb (get_or inn (x / B % M) 0) appear.no_number ≡ b
          → within_paper (carried_back s inn x) ≡ record { number = 0; a = sub_of B M N (λ i. get_or inn i 0) x; b = 0; c = 0 }
      by c true e = back_none x (eqb-true _ _ e)
      by c false e =
          let f : ¬ (get_or inn (x / B % M) 0 ≡ appear.no_number) = eqb-false _ _ e in
          back_some x f (K.carried.sub_below (within_small B M A x c) f)

  formulas : MapsUndo (elements_of (over_side s)) (elements_of (sub_side s)) (over_of B M N (λ i. get_or outw i 0)) (sub_of B M N (λ i. get_or inn i 0))
  formulas = rw (over_count_lem s, sub_count s) (carried_product B A K.carried sub_small)

  pub maps_answer : MapAnswers from table s inn outw
  maps_answer = record { outward = λ {e} h. outward h; inward = λ {x} h. inward h; carried = formulas }

pub reach_once : {x y : ℕ} → reach x ≡ reach y → x ≡ y
reach_once q = ap (answered 0) q

-- What `product_left` and `product_right` give is known by the same maps.
pub multiplied_fine : (g h : Group) (t : Subgroup) {s : Subgroup} → multiplied g h t ≡ Ok s → (s ≡ t) × (sides_limited t ≡ true)
unfolding multiplied if_limited
multiplied_fine g h t {s} q = by (joinable g h) (sides_limited t) refl q where
  no : {x : Subgrouped} → x ≡ refused_subgroup 15 → x ≡ Ok s → ⊥
  no p e = refused_fine (ap (λ (y : Subgrouped). answer_of y) (sym p ∙ e))

  by : (a b : Bool) → sides_limited t ≡ b
      → pick a (pick b (Ok t) (refused_subgroup 15)) (refused_subgroup 15) ≡ Ok s
      → (s ≡ t) × (sides_limited t ≡ true)
  by true true l e = (sym (same_subgroup e), l)
  by true false l e = absurd (no refl e)
  by false b l e = absurd (no refl e)

pub fitting_fine : (b : Bool) (x : Subgrouped) {s : Subgroup} → pick b x (refused_subgroup 17) ≡ Ok s
    → (b ≡ true) × (x ≡ Ok s)
fitting_fine true x e = (refl, e)
fitting_fine false x e = absurd (refused_fine (ap (λ (y : Subgrouped). answer_of y) e))

module _ (from table : ℕ) (s : Subgroup) (g : Group) where
  pub left_value : {t : Subgroup} → left_product from table g s ≡ Ok t → t ≡ put_left g s
  unfolding left_product
  left_value {t} q = (multiplied_fine g s.below (put_left g s) (fitting_fine (sides_fit from table s && all_fit from (handles g)) _ q).1).0

  pub right_value : {t : Subgroup} → right_product from table s g ≡ Ok t → t ≡ put_right s g
  unfolding right_product
  right_value {t} q = (multiplied_fine s.above g (put_right s g) (fitting_fine (sides_fit from table s && all_fit from (handles g)) _ q).1).0

module _ {from table : ℕ} {s : Subgroup} {inn outw : List ℕ} (K : Askable from table s inn outw) (g : Group) where
  parts_fit : fits_in table s.factor && (all_fit from (handles s.below) && (all_fit from (handles s.over) && all_fit from (handles s.above))) ≡ true
  parts_fit = sym (fit_law from table s) ∙ K.fits

  known_as : {t t' : Subgroup} → t ≡ t' → Askable from table t' inn outw → Askable from table t inn outw
  known_as e H = rw e H

  both : {a b : Bool} → a ≡ true → b ≡ true → a && b ≡ true
  both p q = rw (p, q)

  b_fits : all_fit from (handles s.below) ≡ true
  b_fits = and_first _ _ (and_second (fits_in table s.factor) _ parts_fit)

  rest_fits : all_fit from (handles s.over) && all_fit from (handles s.above) ≡ true
  rest_fits = and_second (all_fit from (handles s.below)) _ (and_second (fits_in table s.factor) _ parts_fit)

  f_fits : fits_in table s.factor ≡ true
  f_fits = and_first _ _ parts_fit

  left_fits : all_fit from (handles g) ≡ true → sides_fit from table (put_left g s) ≡ true
  left_fits e =
      fit_law from table (put_left g s)
      ∙ both f_fits (both (ap (all_fit from) (handles_of (handles g ++ handles s.below)) ∙ fit_both from (handles g) (handles s.below) ∙ both e b_fits) rest_fits)

  right_fits : all_fit from (handles g) ≡ true → sides_fit from table (put_right s g) ≡ true
  right_fits e =
      fit_law from table (put_right s g)
      ∙ both f_fits (both b_fits (both (and_first (all_fit from (handles s.over)) (all_fit from (handles s.above)) rest_fits)
      (ap (all_fit from) (handles_of (handles s.above ++ handles g)) ∙ fit_both from (handles s.above) (handles g)
      ∙ both (and_second (all_fit from (handles s.over)) _ rest_fits) e)))

  pub left_known : {t : Subgroup} → left_product from table g s ≡ Ok t → Askable from table t inn outw
  unfolding left_product
  left_known {t} q =
      let F = fitting_fine (sides_fit from table s && all_fit from (handles g)) _ q in
      let L = multiplied_fine g s.below (put_left g s) F.1 in
      known_as L.0 (record {
        fits = left_fits (and_second (sides_fit from table s) _ F.0);
        limited = L.1;
        inn_long = K.inn_long;
        outw_long = K.outw_long;
        carried = K.carried;
      })

  pub right_known : {t : Subgroup} → right_product from table s g ≡ Ok t → Askable from table t inn outw
  unfolding right_product
  right_known {t} q =
      let F = fitting_fine (sides_fit from table s && all_fit from (handles g)) _ q in
      let L = multiplied_fine s.above g (put_right s g) F.1 in
      known_as L.0 (record {
        fits = right_fits (and_second (sides_fit from table s) _ F.0);
        limited = L.1;
        inn_long = K.inn_long;
        outw_long = K.outw_long;
        carried = K.carried;
      })
