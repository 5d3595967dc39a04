-- What `from_generators` never gives and never writes, on every input: by which numbers it is not refused, that of each buffer at
-- most the needed stretch is written, and so that a factor elsewhere in the table's buffer is as it was.
use Prim.Native.Nat.{ℕ}
use mathlib.Core.Path.{◌≡◌, refl, sym, ◌∙◌}
use mathlib.Core.Bool.{false}
use mathlib.Core.List.{List, [], ◌∷◌}
use lib.ListN.{length, replicate, length-replicate}
use Rattle.egg.specs.declared.Factor.{Factor}
use Rattle.egg.specs.declared.Refusal.{Refusal}
use Rattle.egg.specs.Refusals.{refusal_paper}
use Rattle.std.specs.Prelude.{Ok, Err}
use Rattle.build_lending.specs.Lending.{no_factor}
use Rattle.build_checks_laws.specs.Numbers.{RefusalIn}
use Rattle.build_checks_laws.proofs.Numbers.{none_of}
use Rattle.factor_laws.specs.Accepted.{Accepted}
use Rattle.factor_laws.specs.Unaltered.{Unaltered}
use Rattle.promises.specs.Leaves.{Lent, AsBefore, AllCleared, Leaves, untouched, zeros, table_for}
use Rattle.promises.specs.Unaltered.{nothing, part, Apart}
use Rattle.promises.proofs.Leaves.{no_factor_fits}
use Rattle.promises.proofs.Never.{leaves_number}
use Rattle.promises.proofs.Unaltered.{kept}
use Rattle.group_handles.specs.declared.Group.{Group}
use Rattle.group_handles.specs.Handles.{handles, elements_of}
use Rattle.subgroup_build.specs.declared.Subgroup.{Subgroup}
use Rattle.subgroup_build.specs.Answers.{Subgrouped}
use Rattle.subgroup_build.specs.Lent.{subgrouping}
use Rattle.subgroup_build.specs.Generated.{from_generators}
use Rattle.subgroup_sides.specs.Sides.{sides_fit}
use Rattle.promises_subgroup.specs.Leaves.{maps_for, generators_after, AllWrote}
use Rattle.promises_subgroup.proofs.Called.{fine_refused}
use Rattle.promises_subgroup.proofs.Altered.{accepted_regardless}
use Rattle.promises_subgroup.proofs.Leaves.{generators_leaves}

-- A refused call has written nothing, or zeros in the needed stretches.
as_before_wrote : (l : List Lent) → AsBefore l → AllWrote l
as_before_wrote [] s = tt
as_before_wrote (b ∷ l) s = (nothing s.0, as_before_wrote l s.1)

cleared_wrote : (l : List Lent) → AllCleared l → AllWrote l
cleared_wrote [] s = tt
cleared_wrote (b ∷ l) s = (part (replicate b.need 0) s.0.inside (length-replicate b.need 0) s.0.zero, cleared_wrote l s.1)

pub leaves_all_wrote : {right : Type 0} {before after : List ℕ} {l : List Lent} {r : Refusal} → Leaves right before after l r → AllWrote l
leaves_all_wrote {l = l} (untouched wrong m s) = as_before_wrote l s
leaves_all_wrote {l = l} (zeros ok m s) = cleared_wrote l s

-- A subgroup whose factor is the handle that stands for none fits no buffer: every question about it is refused by 17.
pub no_subgroup_fits : (from table : ℕ) (s : Subgroup) → s.factor ≡ no_factor → sides_fit from table s ≡ false
unfolding sides_fit
no_subgroup_fits from table s q = rw (q, no_factor_fits table)

module _ (from : List ℕ) (over : Group) (gens table : List ℕ) (start : ℕ) (work inn outw : List ℕ) (room : ℕ) (t w i o : List ℕ) where
  -- No subgroup, and so no factor, comes with a refusal.
  pub generators_no_factor : (r : Refusal)
      → from_generators from over gens table start work inn outw room ≡ subgrouping (Err r) t w i o
      → (s : Subgroup) {t' w' i' o' : List ℕ} → from_generators from over gens table start work inn outw room ≡ subgrouping (Ok s) t' w' i' o' → ⊥
  generators_no_factor r h s q = fine_refused (sym h ∙ q)

  -- 2, 3, 7, 13 and 16 never come.
  pub generators_never : (r : Refusal)
      → from_generators from over gens table start work inn outw room ≡ subgrouping (Err r) t w i o
      → ¬ (RefusalIn (2 ∷ 3 ∷ 7 ∷ 13 ∷ 16 ∷ []) r)
  generators_never r h m =
      none_of (refusal_paper r).number (2 ∷ 3 ∷ 7 ∷ 13 ∷ 16 ∷ []) (1 ∷ 4 ∷ 14 ∷ 15 ∷ generators_after) refl m
      (leaves_number (1 ∷ 4 ∷ 14 ∷ 15 ∷ generators_after) refl refl (generators_leaves from over gens table start work inn outw room r t w i o h))

  pub generators_wrote : (m : Subgrouped)
      → from_generators from over gens table start work inn outw room ≡ subgrouping m t w i o
      → AllWrote (maps_for table start work inn outw (length gens) (elements_of (handles over)) room t w i o)
  generators_wrote (Ok _) h = (accepted_regardless from over gens table start work inn outw room h).wrote
  generators_wrote (Err r) h = leaves_all_wrote (generators_leaves from over gens table start work inn outw room r t w i o h)

  pub generators_unaltered : (m : Subgrouped)
      → from_generators from over gens table start work inn outw room ≡ subgrouping m t w i o
      → {f : Factor} → Accepted table f → Apart f (table_for table start (length gens) room t) → Unaltered table t f
  generators_unaltered m h A apart = kept (table_for table start (length gens) room t) A apart (generators_wrote m h).0
