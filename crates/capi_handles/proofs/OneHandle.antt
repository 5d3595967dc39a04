-- A product of one handle, asked as the factor is.
use Prim.Native.Nat.{ℕ}
use mathlib.Core.Path.{◌≡◌, refl, ◌∙◌}
use mathlib.Core.List.{List, [], ◌∷◌}
use Rattle.egg.specs.declared.Factor.{Factor}
use Rattle.egg.specs.declared.GroupElementId.{GroupElementId}
use Rattle.egg.specs.declared.GeneratorId.{GeneratorId}
use Rattle.egg.specs.Answers.{Reached}
use Rattle.egg.specs.Factor as egg
use Rattle.factor.specs.Questions as factor
use Rattle.group_handles.specs.Handles.{handles}
use Rattle.group.specs.Questions.{step_answer, generator_answer, compose_answer, inverse_answer, conjugate_answer}
use Rattle.group_handles.proofs.Lists.{is_alone}
use Rattle.group.proofs.OneFactor.{one_step, one_generator, one_compose, one_inverse, one_conjugate}
use Rattle.capi_handles.specs.Product.{handle_at, product_at, product_of}

module _ (t l : List ℕ) (count : ℕ) (c : count ≡ 1) {h : Factor} (q : h ≡ handle_at l 0) where
  counted : (product_of l count).count ≡ 1
  unfolding product_at
  counted = c

  listed : handles (product_of l count) ≡ h ∷ []
  unfolding product_at
  listed = (is_alone (product_of l count) refl c).listed ∙ rw q

  pub step_alone : (e : GroupElementId) (x : GeneratorId) {r : Reached} → r ≡ egg.step_answer t h e x → r ≡ step_answer t (product_of l count) e x
  step_alone e x p = p ∙ one_step t (product_of l count) h counted listed e x

  pub generator_alone : (x : GeneratorId) {r : Reached} → r ≡ factor.generator_answer t h x → r ≡ generator_answer t (product_of l count) x
  generator_alone x p = p ∙ one_generator t (product_of l count) h counted listed x

  pub compose_alone : (a b : GroupElementId) {r : Reached} → r ≡ factor.compose_answer t h a b → r ≡ compose_answer t (product_of l count) a b
  compose_alone a b p = p ∙ one_compose t (product_of l count) h counted listed a b

  pub inverse_alone : (a : GroupElementId) {r : Reached} → r ≡ factor.inverse_answer t h a → r ≡ inverse_answer t (product_of l count) a
  inverse_alone a p = p ∙ one_inverse t (product_of l count) h counted listed a

  pub conjugate_alone : (a b : GroupElementId) {r : Reached} → r ≡ factor.conjugate_answer t h a b → r ≡ conjugate_answer t (product_of l count) a b
  conjugate_alone a b p = p ∙ one_conjugate t (product_of l count) h counted listed a b
