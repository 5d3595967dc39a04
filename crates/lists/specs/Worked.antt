-- What the contracts of the work say of the list that the results are gathered in.
-- Assumes nothing.
use Rattle.std.specs.Prelude.{ℕ, ◌+◌, ◌-◌, ◌≤◌, ◌<◌, ◌≡◌, List, take, get_or}
use Rattle.egg.specs.Answers.{Reached}
use Rattle.std.specs.Prelude.{Ok, Err}
use Rattle.lists.specs.Answers.{Listed, fine}
use Rattle.lists.specs.declared.ListRefusal.TheVariants.{RefusedAt, ListsRefused}
use Rattle.lists.specs.Lists.{first_refused, number_of, numbers}

-- The answer is the first refusal among the k places, and where there is none the list starts with their numbers.
pub record Worked (k : ℕ) (single : ℕ → Reached) (answer : Listed) (results : List ℕ) : Type 0 where
  pub told : answer ≡ first_refused k single 0
  pub filled : answer ≡ fine → take k results ≡ numbers k single 0

-- Every one of the k places is right, and the list starts with their numbers.
pub record AllRight (k : ℕ) (single : ℕ → Reached) (results : List ℕ) : Type 0 where
  pub each : (place : ℕ) → place < k → single place ≡ Ok (record { 0 = get_or results place 0 })

-- This and what follows stand in contracts of the work only, and are no part of a call's answer. As `Worked`, of the places from i on, whose numbers stand in
-- the caller's own list at the end: what stands there before i is as it was, and where a place is refused all of it is.
pub record WorkedFrom (i k : ℕ) (single : ℕ → Reached) (before : List ℕ) (answer : Listed) (out : List ℕ) : Type 0 where
  pub told : answer ≡ first_refused (k - i) single i
  pub kept : (answer ≡ fine → ⊥) → out ≡ before
  pub front : (place : ℕ) → place < i → get_or out place 0 ≡ get_or before place 0
  pub filled : answer ≡ fine → (place : ℕ) → i ≤ place → place < k → get_or out place 0 ≡ number_of (single place)

-- The answer of places that were counted from i.
abbrev pub behind_by : ℕ → Listed → Listed
behind_by i (Ok _) = fine
behind_by i (Err (RefusedAt at)) = Err (RefusedAt (record { place = i + at.place; why = at.why }))
behind_by i (Err (ListsRefused why)) = Err (ListsRefused why)

-- A piece's numbers stand at its places, i to end, where the answer of what comes after it is fine; all other places are as they were.
pub record PieceOver (answer : Listed) (i end : ℕ) (piece before out : List ℕ) : Type 0 where
  pub kept : (answer ≡ fine → ⊥) → out ≡ before
  pub own : answer ≡ fine → (place : ℕ) → i ≤ place → place < end → get_or out place 0 ≡ get_or piece (place - i) 0
  pub first : (place : ℕ) → place < i → get_or out place 0 ≡ get_or before place 0
  pub later : (place : ℕ) → end ≤ place → get_or out place 0 ≡ get_or before place 0
