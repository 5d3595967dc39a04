-- A row is read, filled and put at the end of its list alike in longer stretches.
use Prim.Native.Nat.{ℕ, zero, suc, ◌+◌, ◌*◌, ◌<◌, ◌≤◌}
use mathlib.Core.Path.{◌≡◌, refl}
use mathlib.Core.List.{List}
use native.Mathlib.Omega.{arith}
use borrow.Author.Tests.{ne_eqb}
use lib.ListN.{get_or, length}
use Rattle.enumeration_rows.specs.declared.inner.RelationTableRow.{RelationTableRow}
use Rattle.enumeration_rows.specs.declared.inner.SideOfGap.{SideOfGap}
use Rattle.enumeration_rows.specs.declared.inner.SideOfGap.TheVariants.{Left, Right}
use Rattle.enumeration_rows.specs.Rows.{work_width, place_at, stored_row, write_row, link_at, appended, list_at, waits}
use Rattle.enumeration_fill.specs.Fill.{back_from, forward_from, filled}
use Rattle.enumeration_run_laws.specs.Invariant.{RowOk, Copy, Link, WorkOk}
use Rattle.egg.proofs.Cells.{inside}
use Rattle.enumeration_run_laws.proofs.Spots.{place_inside}
use Rattle.enumeration_run_laws.proofs.Storing.{work_write}
use Rattle.enumeration_run_laws.proofs.Waiting.{Threads, list_of}
use Rattle.enumeration_run_laws.specs.Longer.{longer, Long}
use Rattle.enumeration_run_laws.proofs.LongerStores.{longer_get, long_get, long_put, long_zero}

pub read_longer : (b : ℕ) (w : List ℕ) (at : ℕ) → stored_row (longer b w) at ≡ stored_row w at
unfolding stored_row
read_longer b w at = simp longer_get

module _ (a : ℕ) (t : List ℕ) (n : ℕ) where
  back_longer : (k : ℕ) (r : RelationTableRow) → back_from k (longer a t) n r ≡ back_from k t n r
  unfolding back_from
  back_longer zero r = refl
  back_longer (suc k) r = simp (longer_get, back_longer k)

  forward_longer : (k : ℕ) (r : RelationTableRow) → forward_from k (longer a t) n r ≡ forward_from k t n r
  unfolding forward_from
  forward_longer zero r = refl
  forward_longer (suc k) r = simp (longer_get, forward_longer k)

  pub filled_longer : (r : RelationTableRow) → filled (longer a t) n r ≡ filled t n r
  unfolding filled
  filled_longer r = simp (back_longer, forward_longer)

-- The cells of a list are in the block of its element.
list_within : {n : ℕ} {m : ℕ → ℕ → ℕ} {word : ℕ → List ℕ} {count len : ℕ} {r : RelationTableRow} → RowOk n m word count r → count * work_width n ≤ len → (side : SideOfGap) → list_at n r side + 2 < len
unfolding place_at
list_within {r = r} ok room Left = omega (arith, inside ok.from_below (place_inside {k = 2} (ok.gens r.left) (omega arith)))
list_within {r = r} ok room Right = omega (arith, inside ok.to_below (place_inside {k = 5} (ok.gens r.right) (omega arith)))

module _ {b len : ℕ} {w w' : List ℕ} (L : Long b len w w') where
  write_long : (at : ℕ) → at + 6 ≤ len → (r : RelationTableRow) → Long b len (write_row w at r) (write_row w' at r)
  unfolding write_row
  write_long at h r =
      let l1 = long_put L at r.pair (omega arith) in
      let l2 = long_put l1 (at + 1) r.left (omega arith) in
      let l3 = long_put l2 (at + 2) r.right (omega arith) in
      let l4 = long_put l3 (at + 3) r.from.0 (omega arith) in
      long_put l4 (at + 4) r.to.0 (omega arith)

  -- The last row of a list has begun, so that its link is inside.
  link_within : {n : ℕ} {m : ℕ → ℕ → ℕ} {word : ℕ → List ℕ} {count : ℕ} {S : ℕ → Type 0} → WorkOk n m word count S w → (list : ℕ) {tail : ℕ} → Link S tail → list + 2 < len → link_at list tail < len
  link_within W list {tail} (Link.none z) h = rw z (omega arith)
  link_within W list {tail} (Link.to p in-S e) h =
      let d : tail ≡ 0 → ⊥ = omega arith in
      simp (ne_eqb _ _ d) (omega (arith, L.wide, (W.place p in-S).within))

  appended_long : {n : ℕ} {m : ℕ → ℕ → ℕ} {word : ℕ → List ℕ} {count : ℕ} {S : ℕ → Type 0} → WorkOk n m word count S w → (list at : ℕ) → Threads n S list → list + 2 < len → at + 6 ≤ len
      → Long b len (appended w list at) (appended w' list at)
  unfolding appended
  appended_long W list at T h k =
      let tail = T.from_tail _ (W.cells.holds (list + 1) T.k1 T.tail) in
      let l1 = long_zero L (at + 5) in
      let l2 = long_put l1 (link_at list (get_or w (list + 1) 0)) (at + 1) (link_within W list tail h) in
      let l3 = long_put l2 (list + 1) (at + 1) (omega arith) in
      rw (long_get L (list + 1), long_get L (list + 2)) (long_put l3 (list + 2) (get_or w (list + 2) 0 + 1) h)

-- A copy that waits: one that had begun, or a new one, so that S' is S with it.
module _ {n : ℕ} {m : ℕ → ℕ → ℕ} {word : ℕ → List ℕ} {count : ℕ} {S : ℕ → Type 0} {w : List ℕ} (W : WorkOk n m word count S w)
    {S' : ℕ → Type 0} (grow : (q : ℕ) → S q → S' q) (at : ℕ) (only : (q : ℕ) → S' q → (q ≡ at → ⊥) → S q)
    (c : Copy n (length w) at) {r : RelationTableRow} (ok : RowOk n m word count r) (limit : count ≤ 65535) (room : count * work_width n ≤ length w) where
  pub waits_longer : (b : ℕ) (side : SideOfGap) → waits (longer b w) n at r side ≡ longer b (waits w n at r side)
  unfolding waits
  waits_longer b side =
      let written = write_long {b = b} (record { same = refl; wide = refl }) at c.within r in
      (appended_long written (work_write W grow at only c ok limit) _ at (list_of ok side) (list_within ok room side) c.within).same
