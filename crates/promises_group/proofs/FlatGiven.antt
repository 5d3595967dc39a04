-- A flattened product of accepted factors is the product: the same elements, steps, composition and inverses.
use Prim.Native.Nat.{ℕ, ◌-◌, ◌<◌}
use mathlib.Core.Path.{◌≡◌, sym, ap, ◌∙◌, subst}
use mathlib.Core.List.{List}
use native.Mathlib.Omega.{arith}
use lib.ListN.{length}
use Rattle.egg.specs.declared.Factor.{Factor}
use Rattle.std.specs.Prelude.{Ok}
use Rattle.egg.proofs.Rooms.{room_enough}
use Rattle.build_lending.specs.Lending.{making}
use Rattle.theory.specs.Table.{Table}
use Rattle.theory.specs.Words.{Spelled}
use Rattle.theory.specs.Group.{GroupOn, RightSteps}
use Rattle.theory.proofs.Walking.{walk_closed, walk_agree}
use Rattle.factor_laws.specs.Accepted.{Accepted, factor_step, reach}
use Rattle.factor_laws.proofs.Answers.{accepted_answers}
use Rattle.promises.proofs.Composed.{composed_given}
use Rattle.theory_products.specs.Product.{Part, Worded}
use Rattle.theory_products.proofs.WordLaws.{product_worded}
use Rattle.group_handles.specs.declared.Group.{Group}
use Rattle.group_handles.specs.Handles.{handles, generators_of}
use Rattle.group_flatten.specs.Flat.{flat}
use Rattle.promises_group.specs.Products.{AcceptedProduct, direct, step_rows, FlatGiven}
use Rattle.promises_group.specs.Flattening.{FlatMade}
use Rattle.promises_group.proofs.Parts.{all_worded, parts_generators}
use Rattle.promises_group.proofs.Flattened.{row_at, flat_composed}

-- Two tables with words, one of which has the other's steps, have the same elements.
module _ {n N M : ℕ} {step₁ step₂ : ℕ → ℕ → ℕ} (T₁ : Table n N step₁) (T₂ : Table n M step₂) (agree : (e g : ℕ) → e < N → g < n → step₂ e g ≡ step₁ e g) where
  module _ {w₁ w₂ : ℕ → List ℕ} (S₁ : Spelled n N step₁ w₁) (S₂ : Spelled n M step₂ w₂) where
    first_in_second : (e : ℕ) → e < N → e < M
    first_in_second e h =
        subst (λ (x : ℕ). x < M) (walk_agree T₁ agree T₁.origin (S₁.over h) ∙ S₁.spells h) (walk_closed T₂ T₂.origin (S₁.over h))

    second_in_first : (e : ℕ) → e < M → e < N
    second_in_first e h =
        subst (λ (x : ℕ). x < N) (sym (walk_agree T₁ agree T₁.origin (S₂.over h)) ∙ S₂.spells h) (walk_closed T₁ T₁.origin (S₂.over h))

    pub same_count : N ≡ M
    same_count =
        let p : 0 < N = T₁.origin in
        let q : 0 < M = T₂.origin in
        let u : N - 1 < M = first_in_second (N - 1) (omega arith) in
        let v : M - 1 < N = second_in_first (M - 1) (omega arith) in
        omega arith

pub part_table : {p : Part} → Worded p → Table p.generators p.elements p.step
part_table {p} W = record {
  origin = W.stepped.group.laws.identity;
  closed = λ {e} {g} he hg.
      subst (λ (x : ℕ). x < p.elements) (sym (W.stepped.steps.step_is he hg)) (W.stepped.group.laws.op_closed he (W.stepped.steps.element hg));
}

-- A factor whose steps are a part's is that part.
is_part : {p : Part} → Worded p → {t : List ℕ} {f : Factor} → Accepted t f → f.generators ≡ p.generators
    → ((e x : ℕ) → e < f.elements → x < f.generators → factor_step t f e x ≡ p.step e x) → FlatGiven p t f
is_part {p} W {t} {f} A gens agree =
    let T : Table f.generators p.elements p.step = subst (λ (n : ℕ). Table n p.elements p.step) (sym gens) (part_table W) in
    let S : Spelled f.generators p.elements p.step p.word = subst (λ (n : ℕ). Spelled n p.elements p.step p.word) (sym gens) W.spelled in
    let count : f.elements ≡ p.elements = same_count A.sound.table T (λ e x he hx. sym (agree e x he hx)) A.sound.spelled S in
    let G : GroupOn f.elements p.op p.inv = subst (λ (N : ℕ). GroupOn N p.op p.inv) (sym count) W.stepped.group.laws in
    let R : RightSteps f.generators f.elements (factor_step t f) p.op = right_steps T G agree (same_gens gens) (subst (λ (N : ℕ). (e g : ℕ) → e < N → g < p.generators → p.step e g ≡ p.op e (p.step 0 g)) (sym count) (λ e g he hg. W.stepped.steps.step_is he hg)) in
    let (op, inv, Q) = accepted_answers A in
    record {
      accepted = A;
      same_elements = count;
      same_generators = gens;
      same_steps = λ {e} {x} he hx. agree e x he hx;
      composes = λ ha hb. Q.composes ha hb ∙ ap reach (sym (Q.only_product G R ha hb));
      inverts = λ ha. Q.inverts ha ∙ ap reach (sym (Q.only_inverse G R ha));
    }
  where
    same_gens : f.generators ≡ p.generators → (g : ℕ) → g < f.generators → g < p.generators
    same_gens q g h = subst (λ (n : ℕ). g < n) q h

    right_steps : Table f.generators p.elements p.step → GroupOn f.elements p.op p.inv
        → ((e x : ℕ) → e < f.elements → x < f.generators → factor_step t f e x ≡ p.step e x)
        → ((g : ℕ) → g < f.generators → g < p.generators)
        → ((e g : ℕ) → e < f.elements → g < p.generators → p.step e g ≡ p.op e (p.step 0 g))
        → RightSteps f.generators f.elements (factor_step t f) p.op
    right_steps T G agree to is = record {
      element = λ {g} hg. A.sound.table.closed A.sound.table.origin hg;
      step_is = λ {e} {g} he hg.
          agree e g he hg ∙ is e g he (to g hg) ∙ ap (p.op e) (sym (agree 0 g A.sound.table.origin hg));
    }

module _ {from : List ℕ} {g : Group} (A : AcceptedProduct from g) (table : List ℕ) (start : ℕ) (work : List ℕ) (room : ℕ) where
  pub flat_given : {f : Factor} {t w : List ℕ} → flat from g table start work room ≡ making (Ok f) t w → FlatGiven (direct from g) t f
  flat_given {f} {t} {w} q =
      let W : Worded (direct from g) = product_worded (all_worded from A.factors) in
      let n : ℕ = generators_of (handles g) in
      let G = composed_given table start work (step_rows (direct from g).step n room) n room f t w
      (sym (flat_composed A table start work room W.stepped.group.laws.identity) ∙ q) in
      let gens : f.generators ≡ n = ap (λ (h : Factor). h.generators) G.handle in
      let rooms : f.room ≡ room = ap (λ (h : Factor). h.room) G.handle in
      is_part W G.accepted (gens ∙ sym (parts_generators from (handles g)))
      (λ e x he hx.
      let hn : x < n = subst (λ (m : ℕ). x < m) gens hx in
      G.steps he hn ∙ row_at (direct from g).step n room e x (omega (arith, room_enough (length t) f G.accepted.fits, rooms)) hn)

  pub flat_made : {f : Factor} {t w : List ℕ} → flat from g table start work room ≡ making (Ok f) t w
      → FlatMade table start work (generators_of (handles g)) room f t w
  flat_made {f} {t} {w} q =
      let n : ℕ = generators_of (handles g) in
      let G = composed_given table start work (step_rows (direct from g).step n room) n room f t w
      (sym (flat_composed A table start work room (product_worded (all_worded from A.factors)).stepped.group.laws.identity) ∙ q) in
      record { handle = G.handle; beyond = λ h. G.beyond h; table_kept = G.table_kept; work_zero = G.work_zero }
