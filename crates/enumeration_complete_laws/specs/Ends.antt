-- What a run leaves, held against the table of the group that the orders present: `step` is that table, numbered by first appearance.
use Rattle.std.specs.Prelude.{ℕ, ◌<◌, ◌≤◌, ◌≡◌, List, length}
use Rattle.egg.specs.Table.{parent_of, last_of, length_of}
use Rattle.theory.specs.Appearance.{parent_of_lem, last_of_lem, recorded}
use Rattle.enumeration_run_laws.specs.Invariant.{StepKnown}
use Rattle.enumeration_loop_laws.specs.Rings.{StepsAgree}

-- The recorded words of the first c elements are those of the table: "parent, last generator and length per element".
pub record TableWords (n : ℕ) (step : ℕ → ℕ → ℕ) (c : ℕ) (t : List ℕ) : Type 0 where
  pub parent : (e : ℕ) → 0 < e → e < c → parent_of t n e ≡ parent_of_lem n step e
  pub last : (e : ℕ) → 0 < e → e < c → last_of t n e ≡ last_of_lem n step e
  pub letters : (e : ℕ) → e < c → length_of t n e ≡ length (recorded n step e)

-- What the run by closed loops leaves when it is done: all N elements are within the room, no recorded word passes 4,096, and every step and every word is the
-- table's.
pub record WholeTable (n N : ℕ) (step : ℕ → ℕ → ℕ) (room : ℕ) (q : List ℕ) : Type 0 where
  pub within_room : N ≤ room
  pub short : (e : ℕ) → e < N → length (recorded n step e) ≤ 4096
  pub told : StepsAgree n N step q
  pub words : TableWords n step N q
  pub all : (e g : ℕ) → e < N → g < n → StepKnown n q e g
