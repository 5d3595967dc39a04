-- The rows of a new element begin alike in a longer stretch.
use Prim.Native.Nat.{ℕ, zero, suc, ◌+◌, ◌*◌, ◌-◌, ◌/◌, ◌<◌, ◌≤◌}
use mathlib.Core.Path.{◌≡◌, refl, ◌∙◌}
use mathlib.Core.Logic.{◌⊎◌, inl, ⊎_elim}
use mathlib.Core.List.{List}
use native.Mathlib.Omega.{arith}
use lib.ListN.{get_or, length}
use Rattle.theory.specs.Presentation.{order_of}
use Rattle.theory.proofs.Pairs.{pairs_length}
use Rattle.egg.specs.declared.GroupElementId.{GroupElementId}
use Rattle.enumeration_rows.specs.declared.inner.RelationTableRow.{RelationTableRow}
use Rattle.enumeration_rows.specs.declared.inner.SideOfGap.{SideOfGap}
use Rattle.enumeration_rows.specs.declared.inner.SideOfGap.TheVariants.{Left, Right}
use Rattle.egg.specs.Pairs.{pair_code}
use Rattle.enumeration_rows.specs.Rows.{work_width, rows_at, waits, new_row, added_row, add_rows_from}
use Rattle.enumeration_run_laws.specs.Invariant.{RowOk, Copy, WorkOk, Working}
use Rattle.enumeration_run_laws.proofs.Rowing.{new_row_ok}
use Rattle.enumeration_run_laws.proofs.Waiting.{begins_ok, copy_at_lem, waits_length, added_rows_ok, added_rows_length}
use Rattle.enumeration_run_laws.specs.Longer.{longer}
use Rattle.enumeration_run_laws.proofs.LongerRows.{waits_longer}

-- A copy that begins.
begins_longer : {n : ℕ} {m : ℕ → ℕ → ℕ} {word : ℕ → List ℕ} {count : ℕ} {S : ℕ → Type 0} {w : List ℕ} → WorkOk n m word count S w → count ≤ 65535 → {at : ℕ} → Copy n (length w) at
    → {r : RelationTableRow} → RowOk n m word count r → (side : SideOfGap) → count * work_width n ≤ length w → (b : ℕ) → waits (longer b w) n at r side ≡ longer b (waits w n at r side)
begins_longer {S = S} W limit {at} c ok side room b = waits_longer W {S' = λ q. S q ⊎ (q ≡ at)} (λ q x. inl x) at (λ q x d. ⊎_elim (λ y. y) (λ y. absurd (d y)) x) c ok limit room b side

module _ {n : ℕ} (o : List ℕ) (few : n ≤ 8) (full : length o ≡ n * (n - 1) / 2) (right : (k : ℕ) → k < length o → (1 ≤ get_or o k 0) × (get_or o k 0 < 32768))
    {word : ℕ → List ℕ} {count : ℕ} (limit : count ≤ 65535) (e : GroupElementId) (below : e.0 < count) (b : ℕ) where
  -- Both copies of a pair's row.
  added_longer : (w : List ℕ) → count * work_width n ≤ length w → (k : ℕ) → k < length o → Working n (order_of o) word count w
      → let at = rows_at n e + 12 * k in added_row (longer b w) n e at (pair_code k) (get_or o k 0) ≡ longer b (added_row w n e at (pair_code k) (get_or o k 0))
  unfolding added_row
  added_longer w enough k hk W =
      let ok = new_row_ok o few (full ∙ pairs_length n) right {word = word} {count = count} e k hk below in
      let p : rows_at n e + 6 * (2 * k) ≡ rows_at n e + 12 * k = omega arith in
      let q : rows_at n e + 6 * (2 * k + 1) ≡ rows_at n e + 12 * k + 6 = omega arith in
      let c = rw p at (copy_at_lem n count {len = length w} e below enough (2 * k) (omega arith)) in
      let d = rw q at (copy_at_lem n count {len = length w} e below enough (2 * k + 1) (omega arith)) in
      let l = waits_length w n (rows_at n e + 12 * k) (new_row e (pair_code k) (get_or o k 0)) Left in
      rw (begins_longer W.right limit c ok Left enough b)
      (begins_longer (begins_ok W.right limit c ok Left) limit (rw l d) ok Right (rw l enough) b)

  pub added_rows_longer : (f : ℕ) (w : List ℕ) (k : ℕ) → count * work_width n ≤ length w → f + k ≤ length o → Working n (order_of o) word count w
      → add_rows_from f (longer b w) o n e k ≡ longer b (add_rows_from f w o n e k)
  unfolding add_rows_from
  added_rows_longer zero w k enough h W = refl
  added_rows_longer (suc f) w k enough h W =
      let next = added_rows_ok {room = count} o few (full ∙ pairs_length n) right limit e below below 1 w k enough (omega arith) W in
      rw (added_longer w enough k (omega arith) W)
      (added_rows_longer f _ (k + 1) (rw (added_rows_length 1 w o n e k) enough) (omega arith) next)
