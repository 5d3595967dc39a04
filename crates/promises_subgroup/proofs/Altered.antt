-- `from_generators` over any buffer, altered or not: it is the build of the steps that are read, or a product is refused by 17, and everything is zero.
use Prim.Native.Nat.{ℕ, ◌+◌, ◌*◌, ◌≤◌}
use mathlib.Core.Path.{◌≡◌, refl, sym, ap, ◌∙◌, subst}
use mathlib.Core.Logic.{◌⊎◌, inl, inr}
use mathlib.Core.List.{List}
use native.Mathlib.Nat.{le_refl}
use native.Mathlib.Omega.{arith}
use lib.ListN.{length, get_or, take, replicate}
use Rattle.egg.specs.declared.Refusal.{Refusal}
use Rattle.egg.specs.Answers.{Reached}
use Rattle.std.specs.Prelude.{Ok, Err}
use Rattle.theory.proofs.Counting.{row_known}
use Rattle.theory.proofs.RuleLaws.{count_within}
use Rattle.build_reading.specs.Reading.{read_all}
use Rattle.build_lending.specs.Finish.{Built, built, zeroed, finished_placed}
use Rattle.build_lending.specs.Lending.{table_need, work_need}
use Rattle.group_handles.specs.declared.Group.{Group}
use Rattle.group_handles.specs.Handles.{handles, elements_of}
use Rattle.build_numbering.specs.Build.{Renumbering, renumbering, renumber_in}
use Rattle.theory.specs.Orbit.{Inside, numbered_step, Appearing}
use Rattle.build_numbering_laws.specs.Source.{total, AllAnswered, RefusedAt}
use Rattle.build_numbering_laws.specs.Maps.{MapsFilled}
use Rattle.build_numbering_laws.proofs.Order.{appearing}
use Rattle.build_numbering_laws.proofs.Partial.{total_answering, partial_build}
use Rattle.build_numbering_laws.proofs.Builds.{built_of, renumber_built, renumber_filled, refused_maps}
use Rattle.subgroup_build.specs.declared.Subgroup.{Subgroup}
use Rattle.subgroup_build.specs.Lent.{subgrouping, maps_back}
use Rattle.subgroup_rows.specs.Rows.{product_by}
use Rattle.subgroup_build.specs.Generated.{from_generators}
use Rattle.promises_subgroup.specs.Generates.{Started}
use Rattle.promises_subgroup.specs.Altered.{steps_read, MapsAfter, filled, zeros, BySteps, Stopped, Regardless}
use Rattle.promises_subgroup.proofs.Called as called
use Rattle.promises_subgroup.proofs.Leaving.{refused_stretches}
use Rattle.promises_subgroup.proofs.Regardless.{composes_17, steps_inside, regardless, regardless_at}

module _ (from : List ℕ) (over : Group) (gens table : List ℕ) (start : ℕ) (work inn outw : List ℕ) (room : ℕ)
    (S : Started from over gens table start work inn outw room) where
  abbrev n : ℕ
  n = length gens

  abbrev M : ℕ
  M = elements_of (handles over)

  abbrev source : ℕ → ℕ → Reached
  source = product_by from (handles over) gens

  abbrev size : ℕ
  size = table_need n room

  abbrev lent : List ℕ
  lent = take (work_need n room) work

  I : Inside n M (steps_read from over gens) 0
  I = steps_inside from over gens S.fits

  A : Appearing n M (steps_read from over gens) 0 (appearing I).0 (appearing I).1
  A = (appearing I).2

  lo : 1 ≤ room
  lo = called.lo from over gens table start work inn outw room S

  hi : room ≤ 65535
  hi = called.hi from over gens table start work inn outw room S

  enough : work_need n room ≤ length (take (work_need n room) work)
  enough = called.work_fits from over gens table start work inn outw room S

  small : M ≤ 4294967295
  small = called.small from over gens table start work inn outw room S

  is_built : built_of (renumber_in size lent (total source 0) n room M room 0)
      ≡ finished_placed (read_all (numbered_step (appearing I).0 (appearing I).1 (steps_read from over gens)) n room (replicate size 0)) n lent
  is_built = renumber_built A I small (total source 0) (total_answering n M source 0) room room lo hi (le_refl room) size lent S.few (le_refl size) enough

  maps_after : (b : Built) (i o : List ℕ) → renumber_in size lent (total source 0) n room M room 0 ≡ renumbering b i o
      → MapsAfter M room (appearing I).0 (appearing I).1 i o b
  maps_after (built (Ok c) t w) i o q =
      let R = renumber_filled A I small (total source 0) (total_answering n M source 0) room room lo hi (le_refl room) size lent S.few (le_refl size) enough q in
      counted_so R.0 R.1
    where
      counted_so : {c N : ℕ} {elt : ℕ → ℕ} → c ≡ N → MapsFilled M room room elt c i o → MapsAfter M room N elt i o (built (Ok c) t w)
      counted_so {c} {N} {elt} e F = subst (λ (m : ℕ). MapsAfter M room m elt i o (built (Ok c) t w)) e (filled F)
  maps_after (built (Err r) t w) i o q =
      let Y = refused_maps size lent (total source 0) n room M room 0 q in
      zeros Y.0 Y.1

  rows : room * (2 * n + 4) ≤ table_need (length gens) room
  rows = le_refl size

  by_steps : AllAnswered source 0 n room (appearing I).0 (appearing I).1 → (b : Renumbering) → renumber_in size lent (total source 0) n room M room 0 ≡ b
      → from_generators from over gens table start work inn outw room ≡ maps_back over table start work inn outw M n n room b
      → BySteps from over gens table start work inn outw room (from_generators from over gens table start work inn outw room)
  by_steps a (renumbering b i o) q z =
      let e = sym (ap built_of q) ∙ is_built in
      record {
        count = (appearing I).0;
        elt = (appearing I).1;
        appearing = A;
        answered = a;
        inn' = i;
        outw' = o;
        maps = subst (MapsAfter M room (appearing I).0 (appearing I).1 i o) e (maps_after b i o q);
        is = z ∙ ap (λ (x : Built). maps_back over table start work inn outw M n n room (renumbering x i o)) e;
      }

  stopped : {r : Refusal} {t w i o : List ℕ} → RefusedAt (product_by from (handles over) gens) 0 n room (appearing I).0 (appearing I).1 r
      → renumber_in size lent (product_by from (handles over) gens) n room M room 0 ≡ renumbering (built (Err r) t w) i o
      → Stopped from over gens table start work inn outw room (from_generators from over gens table start work inn outw room)
  stopped {r} {t} {w} {i} {o} b e =
      let Z = refused_stretches size lent (product_by from (handles over) gens) n room M room 0 e in
      let Y = refused_maps size lent (product_by from (handles over) gens) n room M room 0 e in
      let l : length (take (work_need n room) work) ≡ work_need n room = called.work_long from over gens table start work inn outw room S in
      record {
        count = (appearing I).0;
        elt = (appearing I).1;
        appearing = A;
        refusal = r;
        number = (composes_17 from (handles over) ((appearing I).1 b.row) (get_or gens b.column 0)).of r b.refused;
        asked = b;
        reached = A.reached (omega (arith, row_known b.before.known, count_within A.by_rule b.before.known));
        is = called.is_build from over gens table start work inn outw room S
            ∙ ap (λ (b : Renumbering). maps_back over table start work inn outw M n n room b) e
            ∙ rw (Z.0, Z.1, Y.0, Y.1, l);
      }

  -- "17 as met": on every input that starts.
  pub generators_any : BySteps from over gens table start work inn outw room (from_generators from over gens table start work inn outw room)
      ⊎ Stopped from over gens table start work inn outw room (from_generators from over gens table start work inn outw room)
  generators_any = go (partial_build source 0 A I small room room lo hi (le_refl room) size S.few rows lent) where
    go : ((renumber_in size lent source n room M room 0 ≡ renumber_in size lent (total source 0) n room M room 0)
        × AllAnswered source 0 n room (appearing I).0 (appearing I).1)
        ⊎ ((r : Refusal) × RefusedAt source 0 n room (appearing I).0 (appearing I).1 r × (t : List ℕ) × (i : List ℕ) × (o : List ℕ)
        × (renumber_in size lent source n room M room 0 ≡ renumbering (built (Err r) (zeroed t) (zeroed lent)) (zeroed i) (zeroed o)))
        → BySteps from over gens table start work inn outw room (from_generators from over gens table start work inn outw room)
        ⊎ Stopped from over gens table start work inn outw room (from_generators from over gens table start work inn outw room)
    go (inl (e, a)) =
        inl (by_steps a (renumber_in size lent (total source 0) n room M room 0) refl
        (called.is_build from over gens table start work inn outw room S ∙ ap (λ (b : Renumbering). maps_back over table start work inn outw M n n room b) e))
    go (inr (r, b, t, i, o, e)) = inr (stopped b e)

-- What is accepted is an accepted factor, whatever the arguments and the buffers were.
module _ (from : List ℕ) (over : Group) (gens table : List ℕ) (start : ℕ) (work inn outw : List ℕ) (room : ℕ) {s : Subgroup} {t w i o : List ℕ}
    (q : from_generators from over gens table start work inn outw room ≡ subgrouping (Ok s) t w i o) where
  pub accepted_regardless : Regardless from over gens (length gens) table start work inn outw room s t w i o
  accepted_regardless =
      let k : ℕ = length gens in
      let S = called.accepted_started from over gens table start work inn outw room q in
      let B = called.back_accepted from over gens table start work inn outw room
      (renumber_in (table_need k room) (take (work_need k room) work) (product_by from (handles over) gens) k room (elements_of (handles over)) room 0)
      (sym (called.is_build from over gens table start work inn outw room S) ∙ q) in
      regardless_at B.value B.table_is B.work_is B.inn_is B.outw_is
      (regardless from over gens k table start work inn outw room S.fits S.small S.lent (le_refl k) S.few
      (take (work_need k room) work) (called.work_long from over gens table start work inn outw room S) B.is)
