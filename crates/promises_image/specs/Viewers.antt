-- This file states the sentence for which all of this is made, from the bytes of an image to the answer: a live viewer gets each turn as a generator
-- number, a viewer who is behind gets one element, the product of the turns missed, and both land on one state.
use Rattle.std.specs.Prelude.{ℕ, ◌<◌, ◌≡◌, List, [], ◌∷◌}
use Rattle.egg.specs.declared.Factor.{Factor}
use Rattle.egg.specs.Factor.{reached_paper}
use Rattle.factor.specs.Questions.{compose_answer}
use Rattle.factor_laws.specs.Papers.{value_paper}
use Rattle.image.specs.Image.{head_elements}
use Rattle.image.specs.Walked.{walk_number}

-- The live viewer at the element e: each turn is walked by a call of its own, from where the one before it ended.
unfoldable pub live : List ℕ → ℕ → List ℕ → ℕ
live l e [] = e
live l e (g ∷ u) = live l (walk_number l e (g ∷ [])) u

-- After the turns u, from the element e on, both viewers land on one state, with the image l and the factor f that was read from it. The product of
-- the turns is the element to which they lead from the identity; to the state the turns lead one by one, and in one walk, and one `compose` with the
-- product leads there too. Both are elements, so none of these calls refuses.
pub record OneState (l t : List ℕ) (f : Factor) (e : ℕ) (u : List ℕ) : Type 0 where
  pub product : ℕ
  pub an_element : product < head_elements l
  pub turned : walk_number l 0 u ≡ product
  pub state : ℕ
  pub a_state : state < head_elements l
  pub live_lands : live l e u ≡ state
  pub walked_lands : walk_number l e u ≡ state
  pub delayed_lands : reached_paper (compose_answer t f (record { 0 = e }) (record { 0 = product })) ≡ value_paper state
