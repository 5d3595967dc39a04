-- This file defines how a predicate chooses the generators of a subgroup, as `from_subgroup_predicate` of subgroup_action.rs does: element by element
-- of the overgroup, one that is not in the map so far and whose byte is not 0 becomes the next generator, and the subgroup is built again. Document
-- 01: "rebuilt as 005 does, the first refusal standing"; 15 for "a predicate that needs a ninth generator".
use Rattle.std.specs.Prelude.{ℕ, zero, suc, ◌+◌, ◌≤◌, ◌≡◌, Bool, not, ◌&&◌, List, [], ◌∷◌, ◌++◌, length, get_or, take, eqb, ltb}
use Rattle.egg.specs.Answers.{Reached}
use Rattle.std.specs.Prelude.{Ok, Err}
use Rattle.egg.specs.Table.{pick}
use Rattle.egg.specs.Answers.{numbered}
use Rattle.build_lending.specs.Finish.{built, zeroed}
use Rattle.build_numbering.specs.Renumber as appear
use Rattle.build_numbering.specs.Build.{Renumbering, renumbering, renumber_in}
use Rattle.subgroup_predicate_choices.specs.declared.inner.Picks.{Picks}

-- The generators that were chosen, and how the last build ended.
pub data Picked : Type 0 where
  picked : List ℕ → Renumbering → Picked

-- A ninth generator is refused with 15, and all that was built is zero again.
abbrev pub ninth : List ℕ → List ℕ → List ℕ → List ℕ → Renumbering
ninth t w inn outw = renumbering (built (Err (numbered 15 0 0 0)) (zeroed t) (zeroed w)) (zeroed inn) (zeroed outw)

-- True where x is a new member: it is not in the map so far, and its byte is not 0.
abbrev pub is_new_member : List ℕ → (ℕ → ℕ) → ℕ → Bool
is_new_member inn byte x = eqb (get_or inn x 0) appear.no_number && not (eqb (byte x) 0)

-- Goes through k elements of the overgroup, from x on. `again gens w` builds the subgroup that `gens` generate, with the work w; the last argument is
-- how the build before ended.
unfoldable pub chooses : ℕ → (List ℕ → List ℕ → Renumbering) → (ℕ → ℕ) → ℕ → List ℕ → Renumbering → Picked
chooses zero again byte x gens r = picked gens r
chooses (suc k) again byte x gens (renumbering (built (Err f) t w) inn outw) = picked gens (renumbering (built (Err f) t w) inn outw)
chooses (suc k) again byte x gens (renumbering (built (Ok c) t w) inn outw) =
    pick (is_new_member inn byte x)
    (pick (ltb (length gens) 8)
    (chooses k again byte (x + 1) (gens ++ (x ∷ [])) (again (gens ++ (x ∷ [])) w))
    (picked gens (ninth t w inn outw)))
    (chooses k again byte (x + 1) gens (renumbering (built (Ok c) t w) inn outw))

-- Builds a subgroup by a list of elements. `source y x` is the overgroup's product of y and x, or a refusal; M and K are the lengths of the two maps.
abbrev pub again_in : (size : ℕ) (source : ℕ → ℕ → Reached) (room M K : ℕ) (gens w : List ℕ) → Renumbering
again_in size source room M K gens w = renumber_in size w (λ y g. source y (get_or gens g 0)) (length gens) room M K 0

-- What the code keeps true on its way: there are eight places for chosen generators, and the first `generators` of them are used.
pub record ChosenOfEight (p : Picks) : Type 0 where
  pub few : p.generators ≤ 8
  pub long : length p.chosen ≡ 8

-- The last build was not refused.
pub record LastBuilt (p : Picks) : Type 0 where
  pub elements : ℕ
  pub is : p.made ≡ Ok elements

-- The code's picks and buffers as the definition's `Picked`.
abbrev pub picked_of : (p : Picks) (t w inn outw : List ℕ) → Picked
picked_of p t w inn outw = picked (take p.generators p.chosen) (renumbering (built p.made t w) inn outw)

-- The same after a ninth generator was refused.
abbrev pub ninth_of : (p : Picks) (t w inn outw : List ℕ) → Picked
ninth_of p t w inn outw = picked (take p.generators p.chosen) (ninth t w inn outw)
