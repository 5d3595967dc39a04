-- Where all factors of a subgroup's side stand unaltered in one buffer: what `compose` answers of that product is carried to what it answers of the overgroup.
use Prim.Native.Nat.{ℕ, ◌<◌}
use mathlib.Core.Path.{◌≡◌, sym, ap, ◌∙◌, subst}
use mathlib.Core.List.{List, ◌∷◌, ◌++◌}
use lib.ListN.{length}
use Rattle.egg.specs.declared.Factor.{Factor}
use Rattle.factor_laws.specs.Accepted.{reach}
use Rattle.factor_laws.specs.Unaltered.{Unaltered}
use Rattle.theory_products.specs.Product.{Part, product}
use Rattle.group_handles.specs.Handles.{handles, elements_of, generators_of}
use Rattle.group_handles.proofs.Joins.{handles_of}
use Rattle.group.specs.Questions as group
use Rattle.promises_group.specs.Products as products
use Rattle.promises_group.specs.Products.{part, parts, direct, AcceptedProduct, ProductAnswers}
use Rattle.promises_group.specs.Unaltered.{AllUnaltered}
use Rattle.promises_group.proofs.Parts.{parts_elements, parts_generators}
use Rattle.promises_group.proofs.Made.{grouped, all_both}
use Rattle.promises_group.proofs.Answers.{product_answers}
use Rattle.promises_group.proofs.Unaltered.{all_accepted}
use Rattle.subgroup_build.specs.declared.Subgroup.{Subgroup}
use Rattle.subgroup_sides.specs.Sides.{over_side, sub_side}
use Rattle.subgroup_sides.proofs.SideLaws.{sub_within}
use Rattle.subgroup.specs.Questions.{to_over_answer}
use Rattle.promises_subgroup.specs.Beside.{sub_group, sub_direct, outward_of, Beside, InOneBuffer}
use Rattle.promises_subgroup.proofs.Unaltered.{parts_same, each_of}
use Rattle.promises_subgroup.proofs.Asked.{maps_answer, reach_once}
use Rattle.promises_subgroup.proofs.Sides.{parts_append, few_sub_side}
use Rattle.promises_subgroup.proofs.Beside.{over_composes, out_composes}
use Rattle.promises_subgroup.proofs.SideGenerators.{side_generators}

part_same : (t t' : List ℕ) (h : Factor) → Unaltered t t' h → part t' h ≡ part t h
part_same t t' h U = rw U.stretches

module _ {from gens : List ℕ} {s : Subgroup} {t i o : List ℕ} (S : Beside from gens s t i o) (all : List ℕ) (Us : AllUnaltered from all (handles s.below))
    (U : Unaltered t all s.factor) (Rs : AllUnaltered from all (handles s.above)) where
  accepted : AcceptedProduct all (sub_group s)
  accepted =
      grouped all (sub_side s) (all_both (all_accepted Us) (products.more U.accepted (all_accepted Rs))) (few_sub_side s S.known.limited)
      (sub_within s S.known.limited)

  same : direct all (sub_group s) ≡ sub_direct from t s
  same =
      ap (λ (l : List Factor). product (parts all l)) (handles_of (sub_side s))
      ∙ ap product (parts_append all (handles s.below) (s.factor ∷ handles s.above))
      ∙ ap (λ (l : List Part). product (l ++ (part all s.factor ∷ parts all (handles s.above)))) (parts_same (each_of Us))
      ∙ ap (λ (p : Part). product (parts from (handles s.below) ++ (p ∷ parts all (handles s.above)))) (part_same t all s.factor U)
      ∙ ap (λ (l : List Part). product (parts from (handles s.below) ++ (part t s.factor ∷ l))) (parts_same (each_of Rs))

  answers : ProductAnswers all (sub_group s) (direct all (sub_group s))
  answers = product_answers accepted

  size : (direct all (sub_group s)).elements ≡ elements_of (sub_side s)
  size = parts_elements all (handles (sub_group s)) ∙ ap elements_of (handles_of (sub_side s))

  many : (direct all (sub_group s)).generators ≡ generators_of (sub_side s)
  many = parts_generators all (handles (sub_group s)) ∙ ap generators_of (handles_of (sub_side s))

  composed : {a b : ℕ} → a < elements_of (sub_side s) → b < elements_of (sub_side s)
      → group.compose_answer all (sub_group s) (record { 0 = a }) (record { 0 = b }) ≡ reach ((sub_direct from t s).op a b)
  composed {a} {b} ha hb =
      answers.composes (subst (λ (k : ℕ). a < k) (sym size) ha) (subst (λ (k : ℕ). b < k) (sym size) hb) ∙ ap (λ (p : Part). reach (p.op a b)) same

  generated : {g : ℕ} → g < generators_of (sub_side s)
      → group.generator_answer all (sub_group s) (record { 0 = g }) ≡ reach ((sub_direct from t s).step 0 g)
  generated {g} h = answers.generators (subst (λ (k : ℕ). g < k) (sym many) h) ∙ ap (λ (p : Part). reach (p.step 0 g)) same

  pub in_one_buffer : InOneBuffer from t all s o
  in_one_buffer = record {
    subgroup = accepted;
    composes = λ {a} {b} ha hb.
        let M = maps_answer S.known in
        let over = over_composes S (M.carried.over_below ha) (M.carried.over_below hb) in
        record {
          within = (sub_direct from t s).op a b;
          first = outward_of s o a;
          second = outward_of s o b;
          carried = (product (parts from (over_side s))).op (outward_of s o a) (outward_of s o b);
          composed = composed ha hb;
          first_out = M.outward ha;
          second_out = M.outward hb;
          composed_over = over;
          out = out_composes S ha hb ∙ over;
        };
    generators = λ {g} {e} h q.
        (side_generators S).carried h ∙ ap (λ (x : ℕ). to_over_answer (length from) (length t) s o (record { 0 = x })) (reach_once (sym (generated h) ∙ q));
  }
