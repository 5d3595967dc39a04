-- What is answered about a subgroup depends on its handles, the needed part of its maps and the stretches only; and a subgroup that is made depends on the
-- stretches of its overgroup's factors only.
use Prim.Native.Nat.{ℕ, ◌-◌, ◌/◌, ◌≤◌, ◌<◌}
use mathlib.Core.Path.{◌≡◌, refl, sym, ap, ◌∙◌, fun_ext}
use mathlib.Core.Logic.{◌↔◌}
use mathlib.Core.Bool.{Bool, true, false, ◌&&◌}
use mathlib.Core.List.{List, [], ◌∷◌, ◌++◌}
use native.Mathlib.Nat.{mod-lt, le_refl, le_trans}
use native.Mathlib.Omega.{arith}
use borrow.Author.Tests.{le-leb, leb-true, leb-false}
use lib.Dec.{leb}
use lib.ListN.{length, get_or}
use Rattle.egg.specs.declared.Factor.{Factor}
use Rattle.egg.specs.declared.GroupElementId.{GroupElementId}
use Rattle.egg.specs.declared.GeneratorId.{GeneratorId}
use Rattle.egg.specs.Factor.{fits_in}
use Rattle.egg.proofs.Rooms.{and_first, and_second, some}
use Rattle.build_checks_laws.proofs.Accepted.{sound_group}
use Rattle.factor_laws.specs.Accepted.{factor_step}
use Rattle.factor_laws.specs.Unaltered.{Unaltered}
use Rattle.theory_products.specs.Product.{product}
use Rattle.group_handles.specs.declared.Group.{Group}
use Rattle.group_handles.specs.Handles.{handles, elements_of, generators_of, all_fit, capped}
use Rattle.group_digits.specs.Digits.{digitwise, step_in, composes}
use Rattle.group_handles.proofs.Caps.{cap_small, cap_large}
use Rattle.group_handles.proofs.Lists.{positive}
use Rattle.promises_group.specs.Products.{parts, direct}
use Rattle.promises_group.specs.Unaltered.{AllUnaltered, none, more}
use Rattle.build_numbering.specs.Renumber as appear
use Rattle.subgroup_build.specs.declared.Subgroup.{Subgroup}
use Rattle.subgroup_sides.specs.Sides.{over_side, sub_side, sides_fit, admits_sides, left_product, right_product}
use Rattle.subgroup.specs.Questions.{carried_over, carried_back, to_over_answer, to_sub_answer, generator_answer}
use Rattle.subgroup_sides.specs.Generators.{side_generator}
use Rattle.subgroup_rows.specs.Rows.{product_by}
use Rattle.subgroup_build.specs.Generated.{admits_generators, generated_into, from_generators}
use Rattle.subgroup_sides.proofs.SideLaws.{fit_law}
use Rattle.promises_subgroup.specs.Generates.{SubgroupHolds}
use Rattle.promises_subgroup.specs.Asked.{Askable}
use Rattle.promises_subgroup.specs.Unaltered.{SameMaps, UnalteredMaps, EachSame, all, also, SameStretches}
use Rattle.promises_subgroup.proofs.Overgroup.{generated_as}
use Rattle.promises_subgroup.proofs.Called.{carried_as, homomorphic_as}

-- Reading in stretches that hold the same.
module _ {t t' : List ℕ} where
  steps_same : {hs : List Factor} → EachSame t t' hs → (e x : ℕ) → step_in t' hs e x ≡ step_in t hs e x
  unfolding step_in
  steps_same all e x = refl
  steps_same (also {h} q S) e x = rw (q, steps_same S (e / h.elements) (x - h.generators))

  pub composes_same : {hs : List Factor} → EachSame t t' hs → (a b : ℕ) → composes t' hs a b ≡ composes t hs a b
  unfolding digitwise
  composes_same all a b = refl
  composes_same (also {h} q S) a b = simp (q, composes_same S (a / h.elements) (b / h.elements))

-- A map that is long enough by its count is so by what 32 bits can tell of it.
capped_below : (n : ℕ) → capped n ≤ n
capped_below n = by (leb n 4294967295) refl where
  by : (b : Bool) → leb n 4294967295 ≡ b → capped n ≤ n
  by true e = rw (cap_small (leb-true n 4294967295 e)) (le_refl n)
  by false e = let h : 4294967295 < n = leb-false n 4294967295 e in rw (cap_large h) (omega arith)

module _ {from from' table table' : ℕ} {s : Subgroup} {inn inn' outw outw' : List ℕ} (P : SameMaps from from' table table' s inn inn' outw outw') where
  abbrev N : ℕ
  N = s.factor.elements

  abbrev M : ℕ
  M = elements_of (handles s.over)

  parts_fit : fits_in table s.factor && (all_fit from (handles s.below) && (all_fit from (handles s.over) && all_fit from (handles s.above))) ≡ true
  parts_fit = sym (fit_law from table s) ∙ P.fits

  some_over : 0 < M
  some_over =
      positive from (handles s.over)
      (and_first _ _ (and_second (all_fit from (handles s.below)) _ (and_second (fits_in table s.factor) _ parts_fit)))

  some_own : 0 < N
  some_own = some table s.factor (and_first _ _ parts_fit)

  may : {map map' need : ℕ} → need ≤ map → need ≤ map' → (a la : ℕ) → admits_sides from' table' s map' need a la ≡ admits_sides from table s map need a la
  unfolding admits_sides
  may {map} {map'} {need} h h' a la = rw (P.fits, P.fits', le-leb need map h, le-leb need map' h')

  over_same : (e : ℕ) → carried_over s outw' e ≡ carried_over s outw e
  unfolding carried_over
  over_same e = rw (P.outw_same (mod-lt (e / elements_of (handles s.below)) some_own))

  back_same : (x : ℕ) → carried_back s inn' x ≡ carried_back s inn x
  unfolding carried_back
  back_same x = rw (P.inn_same (mod-lt (x / elements_of (handles s.below)) some_over))

  outward : (e : GroupElementId) → to_over_answer from' table' s outw' e ≡ to_over_answer from table s outw e
  unfolding to_over_answer
  outward e = rw (may P.outw_long P.outw_long' e.0 (elements_of (sub_side s)), over_same e.0)

  inward : (x : GroupElementId) → to_sub_answer from' table' s inn' x ≡ to_sub_answer from table s inn x
  unfolding to_sub_answer
  inward x =
      rw (may (le_trans (capped_below M) P.inn_long) (le_trans (capped_below M) P.inn_long') x.0 (elements_of (over_side s)), back_same x.0)

  lefts : (g : Group) → all_fit from' (handles g) ≡ all_fit from (handles g) → left_product from' table' g s ≡ left_product from table g s
  unfolding left_product
  lefts g q = rw (P.fits, P.fits', q)

  rights : (g : Group) → all_fit from' (handles g) ≡ all_fit from (handles g) → right_product from' table' s g ≡ right_product from table s g
  unfolding right_product
  rights g q = rw (P.fits, P.fits', q)

  still_known : Askable from table s inn outw → Askable from' table' s inn' outw'
  still_known K = record {
    fits = P.fits';
    limited = K.limited;
    inn_long = P.inn_long';
    outw_long = P.outw_long';
    carried = carried_as (λ e h. sym (P.outw_same h)) (λ x h. sym (P.inn_same h)) K.carried;
  }

  pub maps_unaltered : UnalteredMaps from from' table table' s inn inn' outw outw'
  maps_unaltered = record { outward = outward; inward = inward; lefts = lefts; rights = rights; known = still_known }

module _ {from from' table table' : List ℕ} {s : Subgroup} {inn inn' outw outw' : List ℕ}
    (P : SameMaps (length from) (length from') (length table) (length table') s inn inn' outw outw') (Q : SameStretches from from' table table' s) where
  side_same : (g : ℕ) → side_generator from' table' s g ≡ side_generator from table s g
  unfolding side_generator
  side_same g =
      rw (Q.own, steps_same Q.below 0 g, steps_same Q.above 0 (g - generators_of (handles s.below) - s.factor.generators))

  pub generator_unaltered : (g : GeneratorId) → generator_answer from' table' s outw' g ≡ generator_answer from table s outw g
  unfolding generator_answer
  generator_unaltered g =
      let c : carried_over s outw' ≡ carried_over s outw = fun_ext (over_same P) in
      rw (may P P.outw_long P.outw_long' g.0 (generators_of (sub_side s)), side_same g.0, c)

-- The overgroup's stretches decide what is made of it, whatever else its buffer holds: every answer and every lent buffer.
module _ {from from' : List ℕ} (over : Group) (fits : all_fit (length from) (handles over) ≡ true) (fits' : all_fit (length from') (handles over) ≡ true)
    (same : EachSame from from' (handles over)) where
  pub generators_same : (gens table : List ℕ) (start : ℕ) (work inn outw : List ℕ) (room : ℕ)
      → from_generators from' over gens table start work inn outw room ≡ from_generators from over gens table start work inn outw room
  unfolding from_generators admits_generators generated_into
  generators_same gens table start work inn outw room =
      let p : product_by from' (handles over) gens ≡ product_by from (handles over) gens = fun_ext λ x. fun_ext λ g. composes_same same x (get_or gens g 0) in
      rw (fits, fits', p)

-- Factors that are unaltered, the subgroup's own and those of its overgroup, keep their stretches, and the handles fit.
module _ {t t' : List ℕ} where
  pub each_of : {hs : List Factor} → AllUnaltered t t' hs → EachSame t t' hs
  each_of none = all
  each_of (more U Us) = also U.stretches (each_of Us)

  each_fits : {hs : List Factor} → AllUnaltered t t' hs → all_fit (length t') hs ≡ true
  each_fits none = refl
  each_fits (more U Us) = rw (U.accepted.fits, each_fits Us)

  each_first : (xs ys : List Factor) → EachSame t t' (xs ++ ys) → EachSame t t' xs
  each_first [] ys S = all
  each_first (x ∷ xs) ys (also q S) = also q (each_first xs ys S)

  each_rest : (xs : List Factor) {ys : List Factor} → EachSame t t' (xs ++ ys) → EachSame t t' ys
  each_rest [] S = S
  each_rest (x ∷ xs) (also q S) = each_rest xs S

module _ {from from' table table' : List ℕ} (s : Subgroup) (U : Unaltered table table' s.factor) (Us : AllUnaltered from from' (over_side s)) where
  pub unaltered_stretches : SameStretches from from' table table' s
  unaltered_stretches =
      let S = each_of Us in
      record {
        own = U.stretches;
        below = each_first (handles s.below) (handles s.over ++ handles s.above) S;
        above = each_rest (handles s.over) (each_rest (handles s.below) S);
      }

  pub unaltered_fits : sides_fit (length from') (length table') s ≡ true
  unfolding sides_fit
  unaltered_fits = rw (U.accepted.fits, each_fits Us)

-- All that holds of a subgroup as it was made holds still, where its factor is unaltered, the stretches of the overgroup's factors hold the same, and the needed
-- parts of the maps do.
pub parts_same : {t t' : List ℕ} {hs : List Factor} → EachSame t t' hs → parts t' hs ≡ parts t hs
parts_same all = refl
parts_same (also q S) = rw (q, parts_same S)

module _ {from from' : List ℕ} {over : Group} {gens : List ℕ} {s : Subgroup} {t t' i o : List ℕ} (H : SubgroupHolds from over gens s t i o)
    (U : Unaltered t t' s.factor) (same : EachSame from from' (handles over)) (i' o' : List ℕ)
    (inn_same : (x : ℕ) → x < elements_of (handles over) → get_or i' x 0 ≡ get_or i x 0)
    (outw_same : (e : ℕ) → e < s.factor.elements → get_or o' e 0 ≡ get_or o e 0) where
  over_alike : direct from' over ≡ direct from over
  over_alike = ap product (parts_same same)

  members_alike : (x : ℕ) → ((x < elements_of (handles over)) × ¬ (get_or i x 0 ≡ appear.no_number)) ↔ ((x < elements_of (handles over)) × ¬ (get_or i' x 0 ≡ appear.no_number))
  members_alike x = (
    λ p. (p.0, λ z. p.1 (sym (inn_same x p.0) ∙ z)),
    λ p. (p.0, λ z. p.1 (inn_same x p.0 ∙ z)),
  )

  pub still_holds : SubgroupHolds from' over gens s t' i' o'
  still_holds = record {
    value = H.value;
    count = H.count;
    accepted = U.accepted;
    proper = H.proper;
    members = rw over_alike (generated_as members_alike H.members);
    carried = carried_as (λ e h. sym (outw_same e h)) (λ x h. sym (inn_same x h)) H.carried;
    homomorphic = rw (over_alike, U.stretches) (homomorphic_as (sound_group H.accepted.sound) (λ e h. sym (outw_same e h)) H.homomorphic);
    generators = λ {g} h.
        let k : g < s.factor.generators = rw H.count h in
        rw U.stretches (outw_same (factor_step t s.factor 0 g) (H.accepted.sound.table.closed H.accepted.sound.table.origin k) ∙ H.generators h);
  }
