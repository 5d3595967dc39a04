-- This file defines how a word is walked in a product. Document 01: "Calls on handles check 17 in the handle, then 14, then 15, .. then 17 in what they
-- read", and "The walk checks .. the start and each generator (14), then each number read (17)".
use Rattle.std.specs.Prelude.{ℕ, ◌+◌, ◌≤◌, ◌<◌, ◌≡◌, true, List, [], ◌∷◌, leb, length, get_or, take}
use Rattle.egg.specs.declared.Factor.{Factor}
use Rattle.egg.specs.declared.GroupElementId.{GroupElementId}
use Rattle.egg.specs.Answers.{Reached, Verdict, fine}
use Rattle.std.specs.Prelude.{Ok}
use Rattle.egg.specs.Table.{pick}
use Rattle.egg.specs.Scan.{refused_of, and_then}
use Rattle.egg.specs.Answers.{on_reached, if_reach}
use Rattle.build_lending.specs.Lending.{no_factor}
use Rattle.factor_walk.specs.Walked.{letters_right}
use Rattle.group_handles.specs.declared.Group.{Group}
use Rattle.group_handles.specs.Handles.{handles, elements_of, generators_of, all_fit, limited}
use Rattle.group_digits.specs.Digits.{step_in}

-- The steps one after another, from e along the word. The first refusal stands.
unfoldable pub follows : List ℕ → List Factor → ℕ → List ℕ → Reached
follows t hs e [] = Ok (record { 0 = e })
follows t hs e (x ∷ w) = on_reached (step_in t hs e x) (λ y. follows t hs y w)

-- The refusals before anything is read in a table. The start of the walk is the argument at position 0, and the letters come after it.
unfoldable pub admits_walk : (len : ℕ) (g : Group) (e : ℕ) (w : List ℕ) → Verdict
admits_walk len g e w =
    pick (all_fit len (handles g))
    (pick (leb (elements_of (handles g)) e) (refused_of 14 0 0 0)
    (and_then (letters_right (generators_of (handles g)) w)
    (pick (limited g) fine (refused_of 15 0 0 0))))
    (refused_of 17 0 0 0)

-- What `walk` answers: where the steps one after another lead. An empty word ends where it starts.
unfoldable pub walk_answer : List ℕ → Group → GroupElementId → List ℕ → Reached
walk_answer t g e w = if_reach (admits_walk (length t) g e.0 w) (follows t (handles g) e.0 w)

-- What is known where a walk goes on.
pub record Walkable (len : ℕ) (g : Group) (e : ℕ) (w : List ℕ) : Type 0 where
  pub fits : all_fit len (handles g) ≡ true
  pub start : e < elements_of (handles g)
  pub letters : letters_right (generators_of (handles g)) w ≡ fine
  pub within : limited g ≡ true

-- The factor at place `at` has the generator x, and `before` generators come before its own.
pub record Owned (hs : List Factor) (x at before : ℕ) : Type 0 where
  pub earlier : before ≡ generators_of (take at hs)
  pub passed : before ≤ x
  pub there : at < length hs
  pub has : x < before + (get_or hs at no_factor).generators
