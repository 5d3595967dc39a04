-- This file states what "More room never changes an accepted table" says: what a call gives in other buffers with at least the same room.
use Rattle.std.specs.Prelude.{ℕ, ◌+◌, ◌≤◌, ◌<◌, ◌≡◌, List, get_or, Ok}
use Rattle.egg.specs.declared.Factor.{Factor}
use Rattle.build_lending.specs.Lending.{table_need, Making, making}

-- A call with this start and room gave the factor f in the table t. The other call, with the marked start and room, gives m: it is accepted too, with as
-- many elements; its stretch holds the same numbers as far as the first call's goes, and zeros in its rest.
pub record Roomier (n start room : ℕ) (f : Factor) (t : List ℕ) (start' room' : ℕ) (m : Making) : Type 0 where
  pub table' : List ℕ
  pub work' : List ℕ
  pub accepted : m ≡ making (Ok (record { start = start'; room = room'; generators = n; elements = f.elements })) table' work'
  pub same : {i : ℕ} → i < table_need n room → get_or table' (start' + i) 0 ≡ get_or t (start + i) 0
  pub beyond : {i : ℕ} → table_need n room ≤ i → i < table_need n room' → get_or table' (start' + i) 0 ≡ 0
