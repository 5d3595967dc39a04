-- What the buffer has room for in which a listing is made.
use Rattle.std.specs.Prelude.{ℕ, ◌≤◌, List, length}

-- The text is whole there: the buffer has 9,268 bytes, 28 for the head and 33 + 11 · 4 for each of 120 lines.
pub record Fits (text : List ℕ) : Type 0 where
  pub most : length text ≤ 9268
