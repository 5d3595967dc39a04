-- This file states the same sentence of a puzzle that is a product: a live viewer gets each turn as a generator number, a viewer who is behind gets
-- one element, the product of the turns missed, and both land on one state.
use Rattle.std.specs.Prelude.{ℕ, ◌≡◌, List, [], ◌∷◌}
use Rattle.egg.specs.declared.GroupElementId.{GroupElementId}
use Rattle.egg.specs.Answers.{Reached}
use Rattle.std.specs.Prelude.{Ok}
use Rattle.promises.specs.Viewers.{then_from, identity, Batch, one_by_one, at_once}
use Rattle.group_handles.specs.declared.Group.{Group}
use Rattle.group.specs.Questions.{step_answer, walk_answer, compose_answer, generator_answer}

-- The live viewer at the element e: the answers of `step` for the turns, one after another; a refusal ends it.
abbrev pub live : List ℕ → Group → GroupElementId → List ℕ → Reached
live t g e [] = Ok e
live t g e (x ∷ u) = then_from (step_answer t g e (record { 0 = x })) (λ y. live t g y u)

-- The turns gathered into one element: the answers of `compose` with the element of each turn's generator, one after another.
abbrev pub gathered : List ℕ → Group → GroupElementId → List ℕ → Reached
gathered t g e [] = Ok e
gathered t g e (x ∷ u) = then_from (generator_answer t g (record { 0 = x })) (λ s. then_from (compose_answer t g e s) (λ y. gathered t g y u))

-- After the turns u, from the element e on, both viewers land on one state. The product of the turns is where they lead from the identity, and what
-- they gather to; to the state the turns lead the live viewer one by one, and one `compose` with the product leads the delayed viewer. One `walk` along
-- all the turns lands there too, and from the identity on the product.
pub record OneState (t : List ℕ) (g : Group) (e : GroupElementId) (u : List ℕ) : Type 0 where
  pub product : GroupElementId
  pub turned : live t g identity u ≡ Ok product
  pub multiplied : gathered t g identity u ≡ Ok product
  pub state : GroupElementId
  pub live_lands : live t g e u ≡ Ok state
  pub delayed_lands : compose_answer t g e product ≡ Ok state
  pub walk_turned : walk_answer t g identity u ≡ Ok product
  pub walk_lands : walk_answer t g e u ≡ Ok state

-- A viewer who is live at times and behind at times: `step` for the turns that come one by one, and one `compose` with the product of those that come at once.
abbrev pub watched : List ℕ → Group → GroupElementId → List Batch → Reached
watched t g e [] = Ok e
watched t g e (one_by_one u ∷ l) = then_from (live t g e u) (λ x. watched t g x l)
watched t g e (at_once u ∷ l) = then_from (gathered t g identity u) (λ p. then_from (compose_answer t g e p) (λ x. watched t g x l))
