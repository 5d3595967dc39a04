-- The generators of a subgroup as it was made, asked of it, are the elements that it was made by.
use Prim.Native.Nat.{ℕ, ◌-◌, ◌/◌, ◌%◌, ◌<◌, zero-le}
use mathlib.Core.Path.{◌≡◌, refl, sym, ap, ◌∙◌, subst}
use mathlib.Core.List.{List, []}
use native.Mathlib.Nat.{div-one, mod-one, mod-eq_of_lt, div-eq_of_lt, one-mul}
use native.Mathlib.Omega.{arith}
use lib.ListN.{length, get_or}
use Rattle.egg.specs.Answers.{fine}
use Rattle.egg.specs.Factor.{stretch, read_step}
use Rattle.factor_laws.specs.Accepted.{factor_step, reach}
use Rattle.build_checks_laws.proofs.Accepted.{read_step_lem}
use Rattle.group_handles.specs.declared.Group.{Group}
use Rattle.group_handles.specs.Handles.{handles, elements_of, generators_of, group_of, capped}
use Rattle.group_handles.proofs.Caps.{cap_small}
use Rattle.subgroup_build.specs.declared.Subgroup.{Subgroup}
use Rattle.subgroup.specs.Indices.{over_of}
use Rattle.subgroup_sides.specs.Sides.{sub_side, admits_sides}
use Rattle.subgroup.specs.Questions.{carried_over, generator_answer}
use Rattle.subgroup_sides.specs.Generators.{scaled, side_generator}
use Rattle.subgroup_sides.proofs.SideLaws.{sides_fine}
use Rattle.subgroup_sides.proofs.Generators.{generator_within}
use Rattle.promises_subgroup.specs.Generates.{SubgroupHolds}
use Rattle.promises_subgroup.specs.Asked.{Askable}
use Rattle.promises_subgroup.proofs.Asked.{over_cell}

-- With nothing below, the formula is the map.
formula_alone : (M N : ℕ) (f : ℕ → ℕ) {e : ℕ} → e < N → over_of 1 M N f e ≡ f e
formula_alone M N f {e} h = rw (div-one e, mod-one e, mod-eq_of_lt h, div-eq_of_lt h) (omega arith)

module _ {from : List ℕ} {over : Group} {gens : List ℕ} {s : Subgroup} {t i o : List ℕ} (H : SubgroupHolds from over gens s t i o)
    (known : Askable (length from) (length t) s i o) where
  abbrev made : Subgroup
  made = record { below = group_of []; factor = s.factor; over = over; above = group_of [] }

  K : Askable (length from) (length t) (record { below = group_of []; factor = s.factor; over = over; above = group_of [] }) i o
  K = subst (λ (x : Subgroup). Askable (length from) (length t) x i o) H.value known

  module _ {g : ℕ} (h : g < length gens) where
    here : g < s.factor.generators
    here = rw H.count h

    abbrev e : ℕ
    e = factor_step t s.factor 0 g

    inside : e < s.factor.elements
    inside = H.accepted.sound.table.closed H.accepted.sound.table.origin here

    side : scaled 1 (reach e) ≡ side_generator from t made g
    side =
        let z : g - 0 ≡ g = omega arith in
        let p : 1 ≡ capped 1 = sym (cap_small (omega arith)) in
        let d : g - 0 < s.factor.generators = omega (arith, here) in
        let r : reach e ≡ read_step (stretch t s.factor) s.factor.generators s.factor.elements 0 (g - 0) =
        rw z (sym (read_step_lem H.accepted.sound H.accepted.sound.table.origin here)) in
        generator_within from t made K.fits K.limited g {k' = 0} refl zero-le {b = 1} p d r refl

    carried : carried_over made o e ≡ reach (get_or gens g 0)
    carried =
        let q : e / 1 % s.factor.elements ≡ e = rw (div-one e) (mod-eq_of_lt inside) in
        over_cell K e (rw q (H.carried.over_below inside))
        ∙ ap reach (formula_alone (elements_of (handles over)) s.factor.elements (λ x. get_or o x 0) inside ∙ H.generators h)

    as_made_answer : generator_answer from t made o (record { 0 = g }) ≡ reach (get_or gens g 0)
    unfolding generator_answer
    as_made_answer =
        let b : g < generators_of (sub_side made) = omega (arith, here) in
        let v : admits_sides (length from) (length t) made (length o) s.factor.elements g (generators_of (sub_side made)) ≡ fine =
        sym (sides_fine (length from) (length t) made (length o) s.factor.elements g (generators_of (sub_side made)) K.fits K.outw_long b K.limited) in
        rw (v, ← side, one-mul e) carried

    pub generators_answer_lem : generator_answer from t s o (record { 0 = g }) ≡ reach (get_or gens g 0)
    generators_answer_lem = subst (λ (x : Subgroup). generator_answer from t x o (record { 0 = g }) ≡ reach (get_or gens g 0)) (sym H.value) as_made_answer
