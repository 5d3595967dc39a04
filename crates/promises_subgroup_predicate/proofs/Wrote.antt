-- What `from_predicate` never gives and never writes, on every input: by which numbers it is not refused, that of each buffer at
-- most the needed stretch is written, and so that a factor elsewhere in the table's buffer is as it was.
use Prim.Native.Nat.{ℕ}
use mathlib.Core.Path.{◌≡◌, refl, sym, ◌∙◌}
use mathlib.Core.List.{List, [], ◌∷◌}
use Rattle.egg.specs.declared.Factor.{Factor}
use Rattle.egg.specs.declared.Refusal.{Refusal}
use Rattle.egg.specs.Refusals.{refusal_paper}
use Rattle.std.specs.Prelude.{Ok, Err}
use Rattle.build_checks_laws.specs.Numbers.{RefusalIn}
use Rattle.build_checks_laws.proofs.Numbers.{none_of}
use Rattle.factor_laws.specs.Accepted.{Accepted}
use Rattle.factor_laws.specs.Unaltered.{Unaltered}
use Rattle.promises.specs.Leaves.{table_for}
use Rattle.promises.specs.Unaltered.{Apart}
use Rattle.promises.proofs.Never.{leaves_number}
use Rattle.promises.proofs.Unaltered.{kept}
use Rattle.group_handles.specs.declared.Group.{Group}
use Rattle.group_handles.specs.Handles.{handles, elements_of}
use Rattle.subgroup_build.specs.Answers.{Subgrouped}
use Rattle.subgroup_build.specs.Lent.{subgrouping}
use Rattle.subgroup_predicate.specs.Predicate.{from_predicate}
use Rattle.promises_subgroup.specs.Leaves.{maps_for, AllWrote}
use Rattle.promises_subgroup_predicate.specs.Leaves.{predicate_after}
use Rattle.promises_subgroup_predicate.proofs.AlteredTold.{told_regardless}
use Rattle.promises_subgroup_predicate.proofs.Leaves.{predicate_leaves}
use Rattle.subgroup_build.specs.declared.Subgroup.{Subgroup}
use Rattle.promises_subgroup.proofs.Called.{fine_refused}
use Rattle.promises_subgroup.proofs.Wrote.{leaves_all_wrote}

module _ (from : List ℕ) (over : Group) (members table : List ℕ) (start : ℕ) (work inn outw : List ℕ) (room : ℕ) (t w i o : List ℕ) where
  -- No subgroup, and so no factor, comes with a refusal.
  pub predicate_no_factor : (r : Refusal)
      → from_predicate from over members table start work inn outw room ≡ subgrouping (Err r) t w i o
      → (s : Subgroup) {t' w' i' o' : List ℕ} → from_predicate from over members table start work inn outw room ≡ subgrouping (Ok s) t' w' i' o' → ⊥
  predicate_no_factor r h s q = fine_refused (sym h ∙ q)

  -- 1 to 3, 7, 13, 14 and 16 never come.
  pub predicate_never : (r : Refusal)
      → from_predicate from over members table start work inn outw room ≡ subgrouping (Err r) t w i o
      → ¬ (RefusalIn (1 ∷ 2 ∷ 3 ∷ 7 ∷ 13 ∷ 14 ∷ 16 ∷ []) r)
  predicate_never r h m =
      none_of (refusal_paper r).number (1 ∷ 2 ∷ 3 ∷ 7 ∷ 13 ∷ 14 ∷ 16 ∷ []) (4 ∷ predicate_after) refl m
      (leaves_number (4 ∷ predicate_after) refl refl (predicate_leaves from over members table start work inn outw room r t w i o h))

  pub predicate_wrote : (m : Subgrouped)
      → from_predicate from over members table start work inn outw room ≡ subgrouping m t w i o
      → AllWrote (maps_for table start work inn outw 8 (elements_of (handles over)) room t w i o)
  predicate_wrote (Ok _) h = (told_regardless from over members table start work inn outw room h).2.wrote
  predicate_wrote (Err r) h = leaves_all_wrote (predicate_leaves from over members table start work inn outw room r t w i o h)

  pub predicate_unaltered : (m : Subgrouped)
      → from_predicate from over members table start work inn outw room ≡ subgrouping m t w i o
      → {f : Factor} → Accepted table f → Apart f (table_for table start 8 room t) → Unaltered table t f
  predicate_unaltered m h A apart = kept (table_for table start 8 room t) A apart (predicate_wrote m h).0
