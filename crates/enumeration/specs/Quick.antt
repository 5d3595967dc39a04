-- What is promised of the quick way, which enumerates by closed loops and checks what comes of it. "Enumeration follows 000 alone": so an answer of
-- the quick way that is taken must be 000's own.
use Rattle.std.specs.Prelude.{ℕ, ◌≡◌, List, Ok, Option, Some}
use Rattle.build_lending.specs.Finish.{built}
use Rattle.enumeration.specs.Calls.{enumerated_in}

-- The answer r is nothing, or it is the element count that the whole build in these stretches gives, and then t and w are as that build leaves them.
pub record Quick (lt lw : ℕ) (o : List ℕ) (n room : ℕ) (r : Option ℕ) (t w : List ℕ) : Type 0 where
  pub same : (N : ℕ) → r ≡ Some N → built (Ok N) t w ≡ enumerated_in lt lw o n room
