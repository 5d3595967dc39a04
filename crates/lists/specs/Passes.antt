-- What a pass over places has written, and where a chunk of places ends. They stand in contracts of the work only, and are no part of a call's answer.
-- Assumes nothing.
use Rattle.std.specs.Prelude.{ℕ, ◌-◌, ◌≤◌, ◌<◌, ◌≡◌, List, get_or}

-- A list starts with these k numbers.
pub record Written (k : ℕ) (value : ℕ → ℕ) (out : List ℕ) : Type 0 where
  pub each : (i : ℕ) → i < k → get_or out i 0 ≡ value i

-- Where a chunk of at most so many places that starts at i ends, in lists of `long` places.
pub record ChunkEnd (most i long end : ℕ) : Type 0 where
  pub on : i < end
  pub within : end ≤ long
  pub short : end - i ≤ most
