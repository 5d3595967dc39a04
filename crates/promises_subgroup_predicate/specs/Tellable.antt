-- This file defines which predicates `from_predicate` accepts. Document 01: "`from_subgroup_predicate` over a lent byte per element, nonzero for a
-- member (rebuilt as 005 does, the first refusal standing ..)".
use Rattle.std.specs.Prelude.{ℕ, ◌≤◌, ◌<◌, List, length, get_or, take}
use Rattle.theory.specs.Appearance.{recorded}
use Rattle.theory.specs.Orbit.{numbered_step, Appearing}
use Rattle.theory.specs.Subgroup.{right_by}
use Rattle.promises_subgroup_predicate.specs.Predicate.{Chosen}

-- What these elements generate can be built: numbered in order of first appearance it is within the room, and no recorded word passes 4,096.
pub record Buildable (op : ℕ → ℕ → ℕ) (M room : ℕ) (gens : List ℕ) : Type 0 where
  pub count : ℕ
  pub elt : ℕ → ℕ
  pub appearing : Appearing (length gens) M (right_by op (λ g. get_or gens g 0)) 0 count elt
  pub within_room : count ≤ room
  pub short : (e : ℕ) → e < count → length (recorded (length gens) (numbered_step count elt (right_by op (λ g. get_or gens g 0))) e) ≤ 4096

-- At most eight elements are chosen (`Chosen`), and what the first ones generate can be built, however many of them are taken. (More generators can make
-- recorded words shorter, so that a first refusal stands although the whole subgroup could be built.)
pub record Tellable (op : ℕ → ℕ → ℕ) (byte : ℕ → ℕ) (M room : ℕ) : Type 0 where
  pub gens : List ℕ
  pub chosen : Chosen op byte M gens
  pub each : (k : ℕ) → k ≤ length gens → Buildable op M room (take k gens)
