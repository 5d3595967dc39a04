-- What an accepted `from_predicate` gives has nothing beside it yet: so all that is proved of a subgroup with groups beside it holds of it and its products.
use Rattle.std.specs.Prelude.{Ok}
use Prim.Native.Nat.{ℕ}
use mathlib.Core.Path.{◌≡◌}
use mathlib.Core.List.{List}
use Rattle.group_handles.specs.declared.Group.{Group}
use Rattle.group_handles.specs.Handles.{handles}
use Rattle.promises_group.specs.Products.{AllAccepted}
use Rattle.subgroup_build.specs.declared.Subgroup.{Subgroup}
use Rattle.subgroup_build.specs.Lent.{subgrouping}
use Rattle.subgroup_predicate.specs.Predicate.{from_predicate}
use Rattle.promises_subgroup.specs.Beside.{Beside}
use Rattle.promises_subgroup.proofs.MadeKnown.{made_known}
use Rattle.promises_subgroup.proofs.Sides.{made_beside}
use Rattle.promises_subgroup_predicate.proofs.ToldCalls.{predicate_given}
use Rattle.promises_subgroup_predicate.proofs.AlteredTold.{told_regardless}

module _ (from : List ℕ) (over : Group) (members table : List ℕ) (start : ℕ) (work inn outw : List ℕ) (room : ℕ) {s : Subgroup} {t w i o : List ℕ}
    (q : from_predicate from over members table start work inn outw room ≡ subgrouping (Ok s) t w i o) where
  pub predicate_beside : AllAccepted from (handles over) → (gens : List ℕ) × Beside from gens s t i o
  predicate_beside As =
      let T = predicate_given from over members table start work inn outw room As q in
      (T.gens, made_beside T.holds As (made_known (told_regardless from over members table start work inn outw room q).2))
