-- This file states the sentence for which all of this is made: a live viewer gets each turn as a generator number, a viewer who is behind gets one
-- element, the product of the turns missed, and both land on one state.
use Rattle.std.specs.Prelude.{ℕ, ◌≡◌, List, [], ◌∷◌, ◌++◌, Ok, Err}
use Rattle.egg.specs.declared.Factor.{Factor}
use Rattle.egg.specs.declared.GroupElementId.{GroupElementId}
use Rattle.egg.specs.Answers.{Reached}
use Rattle.egg.specs.Factor.{step_answer}
use Rattle.factor.specs.Questions.{compose_answer, generator_answer, walk_answer}

-- What is asked next of the element that was answered; a refusal ends it.
abbrev pub then_from : Reached → (GroupElementId → Reached) → Reached
then_from (Ok e) next = next e
then_from (Err r) next = Err r

-- The live viewer at the element e: the answers of `step` for the turns, one after another.
abbrev pub live : List ℕ → Factor → GroupElementId → List ℕ → Reached
live t f e [] = Ok e
live t f e (g ∷ u) = then_from (step_answer t f e (record { 0 = g })) (λ x. live t f x u)

-- The turns gathered into one element: the answers of `compose` with the element of each turn's generator, one after another.
abbrev pub gathered : List ℕ → Factor → GroupElementId → List ℕ → Reached
gathered t f e [] = Ok e
gathered t f e (g ∷ u) = then_from (generator_answer t f (record { 0 = g })) (λ s. then_from (compose_answer t f e s) (λ x. gathered t f x u))

-- The identity.
abbrev pub identity : GroupElementId
identity = record { 0 = 0 }

-- After the turns u, from the element e on, both viewers land on one state. The product of the turns is where they lead from the identity, and what
-- they gather to; to the state the turns lead the live viewer one by one, and one `compose` with the product leads the delayed viewer. One `walk` along
-- all the turns lands there too, and from the identity on the product.
pub record OneState (t : List ℕ) (f : Factor) (e : GroupElementId) (u : List ℕ) : Type 0 where
  pub product : GroupElementId
  pub turned : live t f identity u ≡ Ok product
  pub multiplied : gathered t f identity u ≡ Ok product
  pub state : GroupElementId
  pub live_lands : live t f e u ≡ Ok state
  pub delayed_lands : compose_answer t f e product ≡ Ok state
  pub walk_turned : walk_answer t f identity u ≡ Ok product
  pub walk_lands : walk_answer t f e u ≡ Ok state

-- How a viewer gets some of the turns: one by one, or at once.
pub data Batch : Type 0 where
  one_by_one : List ℕ → Batch
  at_once : List ℕ → Batch

-- The turns of these batches, one after another.
abbrev pub turns_of : List Batch → List ℕ
turns_of [] = []
turns_of (one_by_one u ∷ l) = u ++ turns_of l
turns_of (at_once u ∷ l) = u ++ turns_of l

-- A viewer who is live at times and behind at times: `step` for the turns that come one by one, and one `compose` with the product of those that come at once.
abbrev pub watched : List ℕ → Factor → GroupElementId → List Batch → Reached
watched t f e [] = Ok e
watched t f e (one_by_one u ∷ l) = then_from (live t f e u) (λ x. watched t f x l)
watched t f e (at_once u ∷ l) = then_from (gathered t f identity u) (λ p. then_from (compose_answer t f e p) (λ x. watched t f x l))
