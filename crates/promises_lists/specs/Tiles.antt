-- The sentence for which all of this is made, over a whole wall. "The multi-view page holds up to 4,096 viewers, each with its own lag": at each place a live
-- viewer gets his turns as generator numbers, and a viewer who is behind gets one element, the product of the turns missed; both land on one state.
-- Assumes nothing.
use Rattle.std.specs.Prelude.{ℕ, ◌<◌, ◌≡◌, List, length}
use Rattle.egg.specs.declared.Factor.{Factor}
use Rattle.egg.specs.declared.GroupElementId.{GroupElementId}
use Rattle.egg.specs.Answers.{Reached}
use Rattle.std.specs.Prelude.{Ok}
use Rattle.factor.specs.Questions as factor
use Rattle.group_handles.specs.declared.Group.{Group}
use Rattle.group.specs.Questions as product
use Rattle.theory.specs.Words.{Word}
use Rattle.promises.specs.Viewers.{identity}
use Rattle.promises.specs.Viewers as viewers
use Rattle.promises_group.specs.Viewers as product_viewers
use Rattle.promises_group.specs.Products.{direct}
use Rattle.lists.specs.Answers.{fine}
use Rattle.lists.specs.Lists.{Answered, answered}
use Rattle.lists_laws.specs.Outcomes.{Alike}
use Rattle.lists_factor.specs.Each as factor_lists
use Rattle.lists_group.specs.Each as product_lists
use Rattle.promises_lists.specs.Walls.{Below, element_at}

-- The viewers of one tile, who stood at the element `from`, after the turns u: the delayed one was sent the product of the turns, which is also what they
-- gather to, and at the state where he lands the steps one by one land the live one, and so does one walk.
pub record Tile (live gathered walks : GroupElementId → List ℕ → Reached) (from product state : GroupElementId) (u : List ℕ) : Type 0 where
  pub multiplied : gathered identity u ≡ Ok product
  pub walk_turned : walks identity u ≡ Ok product
  pub live_lands : live from u ≡ Ok state
  pub walk_lands : walks from u ≡ Ok state

-- One call over lists for the delayed viewers of a whole wall: it is fine, and its output has the states of the live ones, place by place.
pub record Wall (live gathered walks : GroupElementId → List ℕ → Reached) (whole : Answered) (from products : List ℕ) (turns : ℕ → List ℕ) : Type 0 where
  pub states : List ℕ
  pub answers : whole ≡ answered fine states
  pub long : length states ≡ length from
  pub each : (place : ℕ) → place < length from → Tile live gathered walks (element_at from place) (element_at products place) (element_at states place) (turns place)

-- Whatever the elements are that the viewers stand at, the turns that each gets, and the product that each delayed one is sent, which is where his turns lead
-- from the identity; and whatever stood in the output list.
abbrev pub Tiles : (count generators : ℕ) (live gathered walks : GroupElementId → List ℕ → Reached) (composed : List ℕ → List ℕ → List ℕ → Answered) → Type 0
Tiles count generators live gathered walks composed =
    (from products out : List ℕ) (turns : ℕ → List ℕ) → Alike (length from) (length products) (length out) → Below count (length from) from
    → ((place : ℕ) → place < length from → Word generators (turns place))
    → ((place : ℕ) → place < length from → live identity (turns place) ≡ Ok (element_at products place))
    → Wall live gathered walks (composed from products out) from products turns

-- A wall of a factor, and of a product.
abbrev pub FactorTiles : List ℕ → Factor → Type 0
FactorTiles t f =
    Tiles f.elements f.generators (viewers.live t f) (viewers.gathered t f) (factor.walk_answer t f) (factor_lists.compose_each t f)

abbrev pub ProductTiles : List ℕ → Group → Type 0
ProductTiles t g =
    Tiles (direct t g).elements (direct t g).generators (product_viewers.live t g) (product_viewers.gathered t g) (product.walk_answer t g) (product_lists.compose_each t g)
