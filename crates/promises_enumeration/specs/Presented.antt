-- When the group of pair orders fits the room: neither 5, "an element is needed beyond the room", nor 6, "its word would pass 4,096", need come.
use Rattle.std.specs.Prelude.{ℕ, ◌<◌, ◌≤◌, length}
use Rattle.theory.specs.Appearance.{recorded}
use Rattle.theory_coxeter.specs.Tables.{PresentedTable}
use Rattle.theory_coxeter.specs.Groups.{PresentedGroup}

-- The orders present a group of at most `room` elements, numbered by first appearance, whose recorded words have at most 4,096 letters: "recorded words at most 4,096
-- generators".
pub record FittingTable (n : ℕ) (m : ℕ → ℕ → ℕ) (room : ℕ) : Type 0 where
  pub N : ℕ
  pub step : ℕ → ℕ → ℕ
  pub presented : PresentedTable n N m step
  pub within_room : N ≤ room
  pub short : (e : ℕ) → e < N → length (recorded n step e) ≤ 4096

-- The same of a group on any carrier, numbered anyhow, each of whose elements some word of at most 4,096 letters reaches. This is what `enumeration_complete` names.
pub record FittingGroup (n : ℕ) (m : ℕ → ℕ → ℕ) (room : ℕ) : Type 1 where
  pub N : ℕ
  pub within_room : N ≤ room
  pub presented : PresentedGroup n N m 4096
