-- A walk in a product is answered by the steps exactly when its handles fit, its start and letters are in range and the product is within its limits; and 17, 14
-- and 15 come before, each exactly when.
use Prim.Native.Nat.{ℕ}
use mathlib.Core.Path.{◌≡◌, refl}
use mathlib.Core.Logic.{◌↔◌}
use mathlib.Core.Bool.{Bool, true, false}
use mathlib.Core.List.{List}
use lib.Dec.{leb}
use lib.ListN.{length}
use Rattle.egg.specs.declared.GroupElementId.{GroupElementId}
use Rattle.egg.specs.Answers.{Reached, Verdict, fine}
use Rattle.std.specs.Prelude.{Ok, Err}
use Rattle.egg.specs.Table.{pick}
use Rattle.egg.specs.Scan.{refused_of, and_then}
use Rattle.egg.specs.Factor.{Paper, reached_paper}
use Rattle.egg.specs.Answers.{if_reach}
use Rattle.factor_walk.specs.Walked.{letters_right}
use Rattle.group_handles.specs.declared.Group.{Group}
use Rattle.group_handles.specs.Handles.{handles, elements_of, generators_of, all_fit, limited}
use Rattle.group_walk.specs.Walked.{follows, admits_walk, walk_answer}
use Rattle.promises_refusals.specs.Walked.{walk_arguments, WalkAsked}
use Rattle.promises_refusals.proofs.Walked.{walk_tests, afterwards, walk_asked, walk_scanned}

module _ (t : List ℕ) (g : Group) (e : GroupElementId) (w : List ℕ) where
  walked : reached_paper (walk_answer t g e w)
      ≡ afterwards (walk_tests (all_fit (length t) (handles g)) (walk_arguments (elements_of (handles g)) (generators_of (handles g)) e.0 w) (limited g))
      (reached_paper (follows t (handles g) e.0 w))
  unfolding walk_answer admits_walk
  walked =
      rw (← walk_scanned (elements_of (handles g)) (generators_of (handles g)) e.0 w)
      (by (all_fit (length t) (handles g)) (leb (elements_of (handles g)) e.0) (letters_right (generators_of (handles g)) w) (limited g) (follows t (handles g) e.0 w))
    where
      by : (x y : Bool) (v : Verdict) (z : Bool) (r : Reached)
          → reached_paper (if_reach (pick x (pick y (refused_of 14 0 0 0) (and_then v (pick z fine (refused_of 15 0 0 0)))) (refused_of 17 0 0 0)) r)
          ≡ afterwards (pick x (and_then (and_then (pick y (refused_of 14 0 0 0) fine) v) (pick z fine (refused_of 15 0 0 0))) (refused_of 17 0 0 0)) (reached_paper r)
      by false y v z r = refl
      by true true v z r = refl
      by true false (Err s) z r = refl
      by true false (Ok _) true r = refl
      by true false (Ok _) false r = refl

  pub product_walk_asked : (p : Paper)
      → reached_paper (walk_answer t g e w) ≡ p
      ↔ WalkAsked (all_fit (length t) (handles g)) (walk_arguments (elements_of (handles g)) (generators_of (handles g)) e.0 w) (limited g)
      (reached_paper (follows t (handles g) e.0 w)) p
  product_walk_asked = walk_asked (walk_arguments (elements_of (handles g)) (generators_of (handles g)) e.0 w) _ walked
