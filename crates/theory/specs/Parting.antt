-- What goes wrong in a table that no group has: a live viewer, who makes each turn, and a delayed one, who composes once, do not land on one state.
use Rattle.std.specs.Prelude.{◌≡◌, List, ℕ, ◌<◌}
use Rattle.theory.specs.Words.{Word, walk}
use Rattle.theory.specs.Regular.{compose}

-- There are an element and some turns after which two viewers stand on different elements: the one who walks the turns from that element, and the one
-- who composes it once with the element that the turns reach from the identity.
pub record Parting (n N : ℕ) (step : ℕ → ℕ → ℕ) (word : ℕ → List ℕ) : Type 0 where
  pub from : ℕ
  pub turns : List ℕ
  pub from_below : from < N
  pub over : Word n turns
  pub apart : ¬ (walk step from turns ≡ compose step word from (walk step 0 turns))
