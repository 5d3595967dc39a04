-- A refused `from_generators` that has started leaves zeros in its needed stretches. A numbering keeps the lengths of its lists, whatever the source says.
use Prim.Native.Nat.{ℕ, zero, suc, ◌+◌, ◌≤◌}
use mathlib.Core.Path.{◌≡◌, refl, sym, ap, ◌∙◌}
use mathlib.Core.Bool.{Bool, true, false}
use mathlib.Core.List.{List}
use native.Mathlib.Omega.{arith}
use borrow.Author.Tests.{leb-true}
use lib.Dec.{eqb, ltb}
use lib.ListN.{length, get_or, take, replicate, length-replicate}
use Rattle.egg.specs.declared.Refusal.{Refusal}
use Rattle.egg.specs.declared.GroupElementId.{GroupElementId}
use Rattle.egg.specs.declared.GeneratorId.{GeneratorId}
use Rattle.egg.specs.Answers.{Counted, Reached}
use Rattle.std.specs.Prelude.{Ok, Err}
use Rattle.egg.specs.Table.{pick, put_at}
use Rattle.egg.proofs.Rooms.{within_length}
use Rattle.build_reading.specs.Build.{set_step, adds}
use Rattle.build_reading.specs.Reading.{placed}
use Rattle.build_lending.specs.Finish.{built, finished}
use Rattle.build_lending.specs.Lending.{table_need, work_need, within}
use Rattle.build_lending.proofs.Lending.{lent_table_lem, lent_enough}
use Rattle.enumeration_run_laws.proofs.Marking.{set_length}
use Rattle.promises.specs.Leaves.{Cleared, AllCleared}
use Rattle.promises.proofs.ReadLengths.{adds_length}
use Rattle.promises.proofs.Zeros.{finished_zeros}
use Rattle.group_handles.specs.declared.Group.{Group}
use Rattle.group_handles.specs.Handles.{handles, elements_of}
use Rattle.build_numbering.specs.Renumber.{no_number, Mapped, mapped, then_mapped, on_new, map_place, map_from, map_row, map_rows, map_all}
use Rattle.build_numbering.specs.Build.{renumbering, finished_mapped, renumber_in}
use Rattle.build_numbering_laws.proofs.Builds.{built_of, settled_built, refused_maps, settled_count}
use Rattle.subgroup_build.specs.Lent.{subgrouping, maps_right}
use Rattle.subgroup_rows.specs.Rows.{product_by}
use Rattle.subgroup_build.specs.Generated.{from_generators}
use Rattle.subgroup_build.proofs.Admits.{maps_lent, maps_inn, maps_outw}
use Rattle.promises_subgroup.specs.Generates.{Started}
use Rattle.promises_subgroup.specs.Leaves.{maps_for}
use Rattle.promises_subgroup.proofs.Called.{is_build, back_refused, work_long}
use Rattle.build_laws.proofs.Settled.{settled_kept, settled_work}
use Rattle.build_laws.proofs.Built.{passed}
use Rattle.build_numbering_laws.proofs.Sizes.{Long, all_long}

abbrev pub table_in : Mapped → List ℕ
table_in (mapped (placed c t) inn outw) = t

new_table : (r : Reached) (t inn outw : List ℕ) (count x : ℕ) → table_in (on_new r t inn outw count x) ≡ t
new_table (Ok e) t inn outw count x = refl
new_table (Err r) t inn outw count x = refl

place_long : (t inn outw : List ℕ) (n room count e g x : ℕ) → length (table_in (map_place t inn outw n room count e g x)) ≡ length t
unfolding map_place
place_long t inn outw n room count e g x = by (eqb (get_or inn x 0) no_number) where
  at : GroupElementId
  at = record { 0 = e }

  by_generator : GeneratorId
  by_generator = record { 0 = g }

  by : (b : Bool) → length (table_in (pick {A = Mapped} b
      (on_new (adds t n room count at by_generator).answer (adds t n room count at by_generator).table inn outw count x)
      (mapped (placed (Ok count) (set_step t n at by_generator (record { 0 = get_or inn x 0 }))) inn outw))) ≡ length t
  by true =
      ap length (new_table (adds t n room count at by_generator).answer (adds t n room count at by_generator).table inn outw count x)
      ∙ adds_length t n room count at by_generator
  by false = set_length t n at by_generator (record { 0 = get_or inn x 0 })

from_long : (r : Reached) (t inn outw : List ℕ) (n room count e g : ℕ) → length (table_in (map_from r t inn outw n room count e g)) ≡ length t
from_long (Ok x) t inn outw n room count e g = place_long t inn outw n room count e g x.0
from_long (Err r) t inn outw n room count e g = refl

then_long : (k : ℕ) (m : Mapped) (f : ℕ → List ℕ → List ℕ → List ℕ → Mapped) → length (table_in m) ≡ k
    → ((c : ℕ) (t inn outw : List ℕ) → length t ≡ k → length (table_in (f c t inn outw)) ≡ k) → length (table_in (then_mapped m f)) ≡ k
then_long k (mapped (placed (Ok c) t) inn outw) f h g = g c t inn outw h
then_long k (mapped (placed (Err r) t) inn outw) f h g = h

row_long : (k : ℕ) (source : ℕ → ℕ → Reached) (n room e g count : ℕ) (t inn outw : List ℕ)
    → length (table_in (map_row k source n room e g count t inn outw)) ≡ length t
unfolding map_row
row_long zero source n room e g count t inn outw = refl
row_long (suc k) source n room e g count t inn outw =
    then_long (length t) (map_from (source (get_or outw e 0) g) t inn outw n room count e g) _ (from_long (source (get_or outw e 0) g) t inn outw n room count e g)
    (λ c t' inn' outw' h. row_long k source n room e (g + 1) c t' inn' outw' ∙ h)

pick_long : (k : ℕ) (b : Bool) (u v : Mapped) → length (table_in u) ≡ k → length (table_in v) ≡ k → length (table_in (pick b u v)) ≡ k
pick_long k true u v p q = p
pick_long k false u v p q = q

pub rows_long : (k : ℕ) (source : ℕ → ℕ → Reached) (n room e count : ℕ) (t inn outw : List ℕ)
    → length (table_in (map_rows k source n room e count t inn outw)) ≡ length t
unfolding map_rows
rows_long zero source n room e count t inn outw = refl
rows_long (suc k) source n room e count t inn outw =
    pick_long (length t) (ltb e count) _ _
    (then_long (length t) (map_row n source n room e 0 count t inn outw) _ (row_long n source n room e 0 count t inn outw)
    (λ c t' inn' outw' h. rows_long k source n room (e + 1) c t' inn' outw' ∙ h)) refl

-- A refused build leaves zeros in both stretches.
pub refused_stretches : (size : ℕ) (w₀ : List ℕ) (source : ℕ → ℕ → Reached) (n room M K x₀ : ℕ) {r : Refusal} {t w inn outw : List ℕ}
    → renumber_in size w₀ source n room M K x₀ ≡ renumbering (built (Err r) t w) inn outw → (t ≡ replicate size 0) × (w ≡ replicate (length w₀) 0)
unfolding renumber_in
refused_stretches size w₀ source n room M K x₀ {r} {t} {w} {inn} {outw} q =
    go (map_all source n room M K x₀ (replicate size 0))
    (rows_long room source n room 0 1 (replicate size 0) (put_at (replicate M no_number) x₀ 0) (put_at (replicate K 0) 0 x₀) ∙ length-replicate size 0) q
  where
    go : (m : Mapped) → length (table_in m) ≡ size → finished_mapped m n w₀ ≡ renumbering (built (Err r) t w) inn outw
        → (t ≡ replicate size 0) × (w ≡ replicate (length w₀) 0)
    go (mapped (placed c t₀) i o) h z =
        let F = finished_zeros c n t₀ w₀ (sym (settled_built (finished c n t₀ w₀) i o) ∙ ap built_of z) in
        (F.0 ∙ ap (λ (k : ℕ). replicate k 0) h, F.1)

-- The four stretches, as they are put back, are zero, and they are in their buffers.
front_cleared : (l : List ℕ) (k : ℕ) → k ≤ length l → {x : List ℕ} → x ≡ within l 0 k (replicate k 0) → Cleared (record { entry = l; start = 0; need = k; exit = x })
front_cleared l k h q = let end : 0 + k ≡ k = omega arith in record { inside = rw end h; zero = q ∙ rw end }

pub four_cleared : (table : List ℕ) (start : ℕ) (work inn outw : List ℕ) (n M room : ℕ)
    → maps_right (length table) start (length work) (length inn) (length outw) room n M ≡ true → {t w i o : List ℕ}
    → t ≡ within table start (start + table_need n room) (replicate (table_need n room) 0) → w ≡ within work 0 (work_need n room) (replicate (work_need n room) 0)
    → i ≡ within inn 0 M (replicate M 0) → o ≡ within outw 0 room (replicate room 0) → AllCleared (maps_for table start work inn outw n M room t w i o)
four_cleared table start work inn outw n M room right a b c d =
    let lent = maps_lent (length table) start (length work) (length inn) (length outw) room n M right in (
      record { inside = within_length (length table) start room n (lent_table_lem (length table) start (length work) room n lent); zero = a },
      (
        front_cleared work (work_need n room) (leb-true _ _ (lent_enough (length table) start (length work) room n lent)) b,
        (
          front_cleared inn M (maps_inn (length table) start (length work) (length inn) (length outw) room n M right) c,
          (front_cleared outw room (maps_outw (length table) start (length work) (length inn) (length outw) room n M right) d, tt),
        ),
      ),
    )

module _ (from : List ℕ) (over : Group) (gens table : List ℕ) (start : ℕ) (work inn outw : List ℕ) (room : ℕ) where
  -- Once it has started, every needed stretch is zero after a refusal.
  pub generators_cleared : Started from over gens table start work inn outw room → {r : Refusal} {t w i o : List ℕ}
      → from_generators from over gens table start work inn outw room ≡ subgrouping (Err r) t w i o
      → AllCleared (maps_for table start work inn outw (length gens) (elements_of (handles over)) room t w i o)
  generators_cleared S q =
      let n : ℕ = length gens in
      let T = back_refused from over gens table start work inn outw room _ (sym (is_build from over gens table start work inn outw room S) ∙ q) in
      let Z = refused_stretches (table_need n room) (take (work_need n room) work) (product_by from (handles over) gens) n room (elements_of (handles over)) room 0
      T.is in
      let Y = refused_maps (table_need n room) (take (work_need n room) work) (product_by from (handles over) gens) n room (elements_of (handles over)) room 0
      T.is in
      let l : length (take (work_need n room) work) ≡ work_need n room = work_long from over gens table start work inn outw room S in
      four_cleared table start work inn outw n (elements_of (handles over)) room S.lent
      (T.table_is ∙ ap (λ (x : List ℕ). within table start (start + table_need n room) x) Z.0)
      (T.work_is ∙ ap (λ (x : List ℕ). within work 0 (work_need n room) x) (Z.1 ∙ ap (λ (k : ℕ). replicate k 0) l))
      (T.inn_is ∙ ap (λ (x : List ℕ). within inn 0 (elements_of (handles over)) x) Y.0) (T.outw_is ∙ ap (λ (x : List ℕ). within outw 0 room x) Y.1)

-- What an accepted numbering leaves is as long as it was lent.
finished_long : (k : Counted) (n : ℕ) (t₀ w₀ : List ℕ) {c : ℕ} {t w : List ℕ} → finished k n t₀ w₀ ≡ built (Ok c) t w
    → (length t ≡ length t₀) × (length w ≡ length w₀)
finished_long k n t₀ w₀ q =
    let p = passed (placed k t₀) n w₀ q in
    let same : p.before ≡ t₀ = cc in
    ((settled_kept p.before w₀ p.end).size ∙ ap length same, ap length (settled_work p.before w₀ p.end) ∙ length-replicate {A = ℕ} (length w₀) 0)

pub accepted_lengths : (size : ℕ) (w₀ : List ℕ) (source : ℕ → ℕ → Reached) (n room M K x₀ : ℕ) {c : ℕ} {t w i o : List ℕ}
    → renumber_in size w₀ source n room M K x₀ ≡ renumbering (built (Ok c) t w) i o
    → (length t ≡ size) × ((length w ≡ length w₀) × ((length i ≡ M) × (length o ≡ K)))
unfolding renumber_in
accepted_lengths size w₀ source n room M K x₀ {c} {t} {w} {i} {o} q =
    go (map_all source n room M K x₀ (replicate size 0))
    (rows_long room source n room 0 1 (replicate size 0) (put_at (replicate M no_number) x₀ 0) (put_at (replicate K 0) 0 x₀) ∙ length-replicate size 0)
    (all_long source n room M K x₀ (replicate size 0)) q
  where
    go : (m : Mapped) → length (table_in m) ≡ size → Long M K m → finished_mapped m n w₀ ≡ renumbering (built (Ok c) t w) i o
        → (length t ≡ size) × ((length w ≡ length w₀) × ((length i ≡ M) × (length o ≡ K)))
    go (mapped (placed k t₀) i₀ o₀) h g z =
        let S = settled_count (finished k n t₀ w₀) i₀ o₀ z in
        let F = finished_long k n t₀ w₀ S.0 in
        (F.0 ∙ h, (F.1, (ap length (sym S.1.0) ∙ g.0, ap length (sym S.1.1) ∙ g.1)))
