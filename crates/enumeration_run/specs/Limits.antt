-- What refusals 1 to 4 have shown when an enumeration starts, which is the premise of theorems about its run.
use Rattle.std.specs.Prelude.{ℕ, ◌+◌, ◌*◌, ◌-◌, ◌/◌, ◌<◌, ◌≤◌, ◌≡◌, List, get_or, length}
use Rattle.egg.specs.Table.{work_of}

-- There are at most 8 generators, an order for each pair and within its limits, a room of 1 to 65,535, and stretches of lt and lw numbers that are
-- long enough for it.
pub record Limits (n : ℕ) (o : List ℕ) (room lt lw : ℕ) : Type 0 where
  pub few : n ≤ 8
  pub full : length o ≡ n * (n - 1) / 2
  pub orders : (k : ℕ) → k < length o → (1 ≤ get_or o k 0) × (get_or o k 0 < 32768)
  pub some : 1 ≤ room
  pub limit : room ≤ 65535
  pub table_room : room * (2 * n + 4) ≤ lt
  pub work_room : room * work_of n ≤ lw
