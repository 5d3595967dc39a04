-- This file states both sides of some edges, for calls on pair orders: refusals 1 to 5.
use Rattle.std.specs.Prelude.{◌≡◌, [], ◌∷◌}
use Rattle.promises_refusals.specs.Papers.{paper_of, paper}
use Rattle.promises_cases.specs.Tables.{orders}

-- What each call answers, by its number and places.
pub record KnownEdges : Type 0 where
  pub nine_generators : paper_of (orders 9 1 []) ≡ paper 1 9 0 0
  pub eight_generators : paper_of (orders 8 1 []) ≡ paper 2 0 0 0
  pub list_short : paper_of (orders 2 6 []) ≡ paper 2 0 0 0
  pub list_long : paper_of (orders 2 6 (3 ∷ 3 ∷ [])) ≡ paper 2 0 0 0
  -- "Orders 1 and 32,768 are 3."
  pub order_1 : paper_of (orders 3 1 (2 ∷ 1 ∷ 2 ∷ [])) ≡ paper 3 1 0 0
  pub order_32768 : paper_of (orders 2 1 (32768 ∷ [])) ≡ paper 3 0 0 0
  pub order_32767 : paper_of (orders 2 1 (32767 ∷ [])) ≡ paper 5 0 0 0
  pub room_0 : paper_of (orders 2 0 (3 ∷ [])) ≡ paper 4 0 0 0
  pub room_5 : paper_of (orders 2 5 (3 ∷ [])) ≡ paper 5 3 0 0
