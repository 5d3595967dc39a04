-- The calls over lists on every input: each outcome exactly, empty lists, and the numbers on paper.
-- Assumes nothing.
use Prim.Native.Nat.{ℕ}
use mathlib.Core.Path.{refl}
use mathlib.Core.List.{List, [], ◌∷◌}
use lib.ListN.{length}
use lib.IntN.{ℤ}
use Rattle.egg.specs.declared.Factor.{Factor}
use Rattle.egg.specs.declared.GroupElementId.{GroupElementId}
use Rattle.egg.specs.Answers.{Reached, Verdict}
use Rattle.std.specs.Prelude.{Ok, Err}
use Rattle.egg.specs.Answers.{if_reach}
use Rattle.egg.specs.Factor.{stretch}
use Rattle.factor_laws.specs.Refuses.{VerdictIn, ReachedIn}
use Rattle.factor_laws.proofs.Refuses.{verdict_fine, verdict_refused, reached_if, reached_widen, compose_in_lem, inverse_in_lem, questions_refuse}
use Rattle.factor.specs.Questions.{admits, compose_answer, inverse_answer}
use Rattle.group_powers.specs.Powers.{powi_alone}
use Rattle.group_handles.specs.declared.Group.{Group}
use Rattle.group.specs.Questions as group
use Rattle.promises_group.proofs.Refuses.{powers_in, product_refuses}
use Rattle.lists_factor.specs.Each as factor
use Rattle.lists_group.specs.Each as product
use Rattle.promises_lists.specs.Places.{FactorPlaces, ProductPlaces}
use Rattle.promises_lists.proofs.Each.{places_of}

-- A test that comes before an answer refuses by the answer's numbers.
tests_in : {l : List ℕ} (v : Verdict) (x : Reached) → ReachedIn l (if_reach v x) → VerdictIn l v
tests_in (Ok _) x p = verdict_fine
tests_in (Err r) x p = verdict_refused r (p.of r refl)

-- The single power in one factor is refused by 14 and 17 alone.
powi_numbers : (t : List ℕ) (f : Factor) (a : GroupElementId) (z : ℤ) → ReachedIn (14 ∷ 17 ∷ []) (powi_alone t f a z)
unfolding powi_alone inverse_answer
powi_numbers t f a z =
    reached_if _ _ (tests_in (admits (length t) f a.0 0) _ ((questions_refuse t f).inverts a))
    (powers_in _ (λ x y. as_both (compose_in_lem (stretch t f) f.generators f.elements x y)) 1073741824 _
    (λ x. as_both (inverse_in_lem (stretch t f) f.generators f.elements x)) a.0 z) where
      as_both : {x : Reached} → ReachedIn (17 ∷ []) x → ReachedIn (14 ∷ 17 ∷ []) x
      as_both p = reached_widen (14 ∷ 17 ∷ []) refl p

pub factor_places : (t : List ℕ) (f : Factor) → FactorPlaces t f
unfolding factor.compose_each factor.inverse_each factor.powi_each
factor_places t f =
    let Q = questions_refuse t f in
    places_of (compose_answer t f) (inverse_answer t f) (powi_alone t f) (14 ∷ 17 ∷ []) refl refl Q.composes Q.inverts (powi_numbers t f)

pub product_places : (t : List ℕ) (g : Group) → ProductPlaces t g
unfolding product.compose_each product.inverse_each product.powi_each
product_places t g =
    let Q = product_refuses t g in
    places_of (group.compose_answer t g) (group.inverse_answer t g) (group.powi_answer t g) (14 ∷ 15 ∷ 17 ∷ []) refl refl Q.composes Q.inverts Q.powers
