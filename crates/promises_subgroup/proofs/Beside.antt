-- What the calls on a subgroup with accepted groups beside it answer: the maps carry what `compose` and `inverse` answer.
use Rattle.std.specs.Prelude.{Ok}
use Prim.Native.Nat.{ℕ, ◌<◌}
use mathlib.Core.Path.{◌≡◌, sym, ap, ◌∙◌, subst}
use mathlib.Core.List.{List}
use lib.ListN.{length}
use Rattle.egg.specs.Factor.{Paper}
use Rattle.egg.specs.declared.Factor.{Factor}
use Rattle.factor_laws.specs.Accepted.{reach}
use Rattle.theory_products.specs.Product.{Part, product}
use Rattle.group_handles.specs.declared.Group.{Group}
use Rattle.group_handles.specs.Handles.{handles, elements_of}
use Rattle.group_handles.proofs.Joins.{handles_of}
use Rattle.group.specs.Questions as group
use Rattle.promises_group.specs.Products.{parts, direct, AllAccepted, ProductAnswers}
use Rattle.promises_group.proofs.Parts.{parts_elements}
use Rattle.promises_group.proofs.Answers.{product_answers}
use Rattle.build_numbering.specs.Renumber as appear
use Rattle.subgroup_build.specs.declared.Subgroup.{Subgroup}
use Rattle.subgroup_build.specs.Lent.{subgrouping}
use Rattle.subgroup_build.specs.Generated.{from_generators}
use Rattle.subgroup_sides.specs.Sides.{over_side, sub_side}
use Rattle.subgroup.specs.Questions.{within_paper, to_over_answer, to_sub_answer}
use Rattle.promises_subgroup.specs.Carried.{Homomorphic}
use Rattle.promises_subgroup.specs.Asked.{MapAnswers}
use Rattle.promises_subgroup.specs.Beside.{over_group, sub_direct, outward_of, inward_of, Beside, SideAnswers}
use Rattle.promises_subgroup.proofs.Products.{sub_composes}
use Rattle.promises_subgroup.proofs.Asked.{maps_answer, reach_once}
use Rattle.promises_subgroup.proofs.Called.{generators_given}
use Rattle.promises_subgroup.proofs.MadeKnown.{made_known}
use Rattle.promises_subgroup.proofs.Altered.{accepted_regardless}
use Rattle.promises_subgroup.proofs.Sides.{sub_groups, sub_size, over_accepted, sides_homomorphic, made_beside}

-- An element of the subgroup, on paper.
abbrev paper_of : ℕ → Paper
paper_of u = record { number = 0; a = u; b = 0; c = 0 }

module _ {from gens : List ℕ} {s : Subgroup} {t i o : List ℕ} (S : Beside from gens s t i o) where
  abbrev N : ℕ
  N = elements_of (sub_side s)

  abbrev M : ℕ
  M = elements_of (over_side s)

  maps : MapAnswers (length from) (length t) s i o
  maps = maps_answer S.known

  hom : Homomorphic (elements_of (sub_side s)) (sub_direct from t s).op (sub_direct from t s).inv (product (parts from (over_side s))).op
      (product (parts from (over_side s))).inv (outward_of s o)
  hom = sides_homomorphic S

  sub_op_closed : {a b : ℕ} → a < N → b < N → (sub_direct from t s).op a b < N
  sub_op_closed {a} {b} ha hb =
      subst (λ (k : ℕ). (sub_direct from t s).op a b < k) (sub_size S)
      ((sub_groups S).laws.op_closed (subst (λ (k : ℕ). a < k) (sym (sub_size S)) ha) (subst (λ (k : ℕ). b < k) (sym (sub_size S)) hb))

  sub_inv_closed : {a : ℕ} → a < N → (sub_direct from t s).inv a < N
  sub_inv_closed {a} ha =
      subst (λ (k : ℕ). (sub_direct from t s).inv a < k) (sub_size S) ((sub_groups S).laws.inv_closed (subst (λ (k : ℕ). a < k) (sym (sub_size S)) ha))

  sub_origin : 0 < N
  sub_origin = subst (λ (k : ℕ). 0 < k) (sub_size S) (sub_groups S).laws.identity

  -- The overgroup's own answers.
  whole : direct from (over_group s) ≡ product (parts from (over_side s))
  whole = ap (λ (l : List Factor). product (parts from l)) (handles_of (over_side s))

  over_size : (direct from (over_group s)).elements ≡ M
  over_size = parts_elements from (handles (over_group s)) ∙ ap elements_of (handles_of (over_side s))

  answers : ProductAnswers from (over_group s) (direct from (over_group s))
  answers = product_answers (over_accepted S)

  pub over_composes : {x y : ℕ} → x < M → y < M
      → group.compose_answer from (over_group s) (record { 0 = x }) (record { 0 = y }) ≡ reach ((product (parts from (over_side s))).op x y)
  over_composes {x} {y} hx hy =
      answers.composes (subst (λ (k : ℕ). x < k) (sym over_size) hx) (subst (λ (k : ℕ). y < k) (sym over_size) hy)
      ∙ ap (λ (p : Part). reach (p.op x y)) whole

  over_inverts : {x : ℕ} → x < M → group.inverse_answer from (over_group s) (record { 0 = x }) ≡ reach ((product (parts from (over_side s))).inv x)
  over_inverts {x} hx = answers.inverts (subst (λ (k : ℕ). x < k) (sym over_size) hx) ∙ ap (λ (p : Part). reach (p.inv x)) whole

  pub out_composes : {a b : ℕ} → a < N → b < N → to_over_answer (length from) (length t) s o (record { 0 = (sub_direct from t s).op a b })
      ≡ group.compose_answer from (over_group s) (record { 0 = outward_of s o a }) (record { 0 = outward_of s o b })
  out_composes {a} {b} ha hb =
      maps.outward (sub_op_closed ha hb) ∙ ap reach (hom.composes ha hb)
      ∙ sym (over_composes (maps.carried.over_below ha) (maps.carried.over_below hb))

  out_inverts : {a : ℕ} → a < N → to_over_answer (length from) (length t) s o (record { 0 = (sub_direct from t s).inv a })
      ≡ group.inverse_answer from (over_group s) (record { 0 = outward_of s o a })
  out_inverts {a} ha = maps.outward (sub_inv_closed ha) ∙ ap reach (hom.inverts ha) ∙ sym (over_inverts (maps.carried.over_below ha))

  back_composes : {x y : ℕ} → x < M → y < M → ¬ (inward_of s i x ≡ appear.no_number) → ¬ (inward_of s i y ≡ appear.no_number)
      → {z : ℕ} → group.compose_answer from (over_group s) (record { 0 = x }) (record { 0 = y }) ≡ reach z
      → within_paper (to_sub_answer (length from) (length t) s i (record { 0 = z }))
      ≡ record { number = 0; a = (sub_direct from t s).op (inward_of s i x) (inward_of s i y); b = 0; c = 0 }
  back_composes {x} {y} hx hy f k {z} q =
      let C = maps.carried in
      let e : (product (parts from (over_side s))).op x y ≡ z = reach_once (sym (over_composes hx hy) ∙ q) in
      let a = C.sub_below hx f in
      let b = C.sub_below hy k in
      let w : outward_of s o ((sub_direct from t s).op (inward_of s i x) (inward_of s i y)) ≡ z =
      hom.composes a b ∙ ap (λ (u : ℕ). (product (parts from (over_side s))).op u (outward_of s o (inward_of s i y))) (C.back_and_there hx f)
      ∙ ap ((product (parts from (over_side s))).op x) (C.back_and_there hy k) ∙ e in
      let l : z < M = subst (λ (u : ℕ). u < M) w (C.over_below (sub_op_closed a b)) in
      maps.inward l
      ∙ ap paper_of (ap (inward_of s i) (sym e) ∙ sub_composes C hom (λ a b ha hb. sub_op_closed ha hb) hx hy f k)

  back_inverts : {x : ℕ} → x < M → ¬ (inward_of s i x ≡ appear.no_number)
      → {z : ℕ} → group.inverse_answer from (over_group s) (record { 0 = x }) ≡ reach z
      → within_paper (to_sub_answer (length from) (length t) s i (record { 0 = z })) ≡ record { number = 0; a = (sub_direct from t s).inv (inward_of s i x); b = 0; c = 0 }
  back_inverts {x} hx f {z} q =
      let C = maps.carried in
      let e : (product (parts from (over_side s))).inv x ≡ z = reach_once (sym (over_inverts hx) ∙ q) in
      let a = C.sub_below hx f in
      let w : outward_of s o ((sub_direct from t s).inv (inward_of s i x)) ≡ z =
      hom.inverts a ∙ ap (product (parts from (over_side s))).inv (C.back_and_there hx f) ∙ e in
      let l : z < M = subst (λ (u : ℕ). u < M) w (C.over_below (sub_inv_closed a)) in
      maps.inward l ∙ ap paper_of (ap (inward_of s i) (sym w) ∙ C.there_and_back (sub_inv_closed a))

  outside_identity : outward_of s o 0 ≡ 0
  outside_identity = hom.identity

  back_identity : within_paper (to_sub_answer (length from) (length t) s i (record { 0 = 0 })) ≡ record { number = 0; a = 0; b = 0; c = 0 }
  back_identity =
      let l : 0 < M = subst (λ (u : ℕ). u < M) outside_identity (maps.carried.over_below sub_origin) in
      let z : inward_of s i 0 ≡ 0 = ap (inward_of s i) (sym outside_identity) ∙ maps.carried.there_and_back sub_origin in
      maps.inward l ∙ ap paper_of z

  pub side_answers : SideAnswers from t s i o
  side_answers = record {
    overgroup = over_accepted S;
    maps = maps;
    identity = maps.outward sub_origin ∙ ap reach outside_identity;
    back_identity = back_identity;
    composes = λ {a} {b} ha hb. (sub_op_closed ha hb, out_composes ha hb);
    inverts = λ {a} ha. (sub_inv_closed ha, out_inverts ha);
    back_composes = λ {x} {y} hx hy f k {z} q. back_composes hx hy f k q;
    back_inverts = λ {x} hx f {z} q. back_inverts hx f q;
  }

-- What an accepted `from_generators` gives has nothing beside it yet.
module _ (from : List ℕ) (over : Group) (gens table : List ℕ) (start : ℕ) (work inn outw : List ℕ) (room : ℕ) {s : Subgroup} {t w i o : List ℕ}
    (q : from_generators from over gens table start work inn outw room ≡ subgrouping (Ok s) t w i o) where
  pub generators_beside : AllAccepted from (handles over) → Beside from gens s t i o
  generators_beside As =
      made_beside (generators_given from over gens table start work inn outw room As q).holds As
      (made_known (accepted_regardless from over gens table start work inn outw room q))
