-- Answers over lists as they are read, of single calls that reach the element 5 at place 0 and are refused by 14 at place 1 and by 17 at the others.
-- Assumes nothing.
use Prim.Native.Nat.{ℕ, zero, suc}
use mathlib.Core.Path.{◌≡◌, refl}
use mathlib.Core.List.{[], ◌∷◌}
use Rattle.egg.specs.Answers.{Reached}
use Rattle.std.specs.Prelude.{Ok, Err}
use Rattle.egg.specs.Answers.{numbered}
use Rattle.egg.specs.Factor.{refused_reach}
use Rattle.lists.specs.Answers.{fine}
use Rattle.lists.specs.declared.ListRefusal.TheVariants.{RefusedAt}
use Rattle.lists.specs.Lists.{lengths_right, lists_refused, first_refused, numbers, answered, each_place, over_lists}

abbrev said_at : ℕ → Reached
said_at zero = Ok (record { 0 = 5 })
said_at (suc zero) = refused_reach 14 0
said_at (suc (suc i)) = refused_reach 17 0

-- "the first such place and its refusal come back and the output list is unchanged"
pub example_refused : over_lists (lengths_right 3 3 3) 3 said_at (7 ∷ 7 ∷ 7 ∷ []) ≡ answered (Err (RefusedAt (record { place = 1; why = numbered 14 0 0 0 }))) (7 ∷ 7 ∷ 7 ∷ [])
unfolding lengths_right first_refused numbers each_place over_lists
example_refused = refl

-- "4 when the lists' lengths differ .., before anything else"
pub example_unlike : over_lists (lengths_right 3 3 2) 3 (λ i. said_at (suc i)) (7 ∷ 7 ∷ []) ≡ answered lists_refused (7 ∷ 7 ∷ [])
unfolding lengths_right over_lists
example_unlike = refl

-- "The result at each place equals the single call at that place."
pub example_fine : over_lists (lengths_right 1 1 1) 1 said_at (7 ∷ []) ≡ answered fine (5 ∷ [])
unfolding lengths_right first_refused numbers each_place over_lists
example_fine = refl
