-- A store that fits its cell keeps the work right, and so does a right row that is stored as a copy.
use Prim.Native.Nat.{ℕ, zero, suc, ◌+◌, ◌-◌, ◌<◌, ◌≤◌}
use mathlib.Core.Path.{◌≡◌, refl, sym, ◌∙◌, subst}
use mathlib.Core.List.{List}
use native.Mathlib.Nat.{add-zero}
use native.Mathlib.Decide.{ℕ_discrete}
use native.Mathlib.Omega.{arith}
use lib.ListN.{get_or, length}
use Rattle.egg.specs.Table.{put_at}
use Rattle.enumeration_rows.specs.declared.inner.RelationTableRow.{RelationTableRow}
use Rattle.enumeration_rows.specs.Rows.{stored_row, write_row}
use Rattle.enumeration_run_laws.specs.Invariant.{RowOk, CellOfKind, Copy, Link, MayHold, CellsOk, WorkOk}
use Rattle.egg.proofs.Cells.{put_same, put_other, put_length}
use Rattle.enumeration_run_laws.proofs.Cells.{put_keeps}
use Rattle.enumeration_run_laws.proofs.Spots.{spot_once, row_spot, copy_once}

-- A store of what a cell of that kind may hold.
pub cells_put : {n : ℕ} {S : ℕ → Type 0} {w : List ℕ} → CellsOk n S w → {i k : ℕ} (v : ℕ) → CellOfKind n i k → MayHold n S k v → CellsOk n S (put_at w i v)
cells_put {n} {S} {w} C {i} {k} v s h = record { holds = put_keeps w i v (λ j x. (k' : ℕ) → CellOfKind n j k' → MayHold n S k' x) (λ k' s'. subst (λ (x : ℕ). MayHold n S x v) (spot_once s s') h) C.holds }

-- A row is read as before, where its five numbers are as before.
pub read_same : (w w' : List ℕ) (p : ℕ) → ((d : ℕ) → d < 5 → get_or w' (p + d) 0 ≡ get_or w (p + d) 0) → stored_row w' p ≡ stored_row w p
unfolding stored_row
read_same w w' p h =
    let z : get_or w' p 0 ≡ get_or w p 0 = rw add-zero at (h 0 (omega arith)) in
    cc (z, h 1 (omega arith), h 2 (omega arith), h 3 (omega arith), h 4 (omega arith))

-- What a stored row changes, and what it leaves.
pub write_other : (w : List ℕ) (p : ℕ) (r : RelationTableRow) {j : ℕ} → ((d : ℕ) → d < 5 → j ≡ p + d → ⊥) → get_or (write_row w p r) j 0 ≡ get_or w j 0
unfolding write_row
write_other w p r {j} h =
    let z : j ≡ p → ⊥ = λ q. h 0 (omega arith) (q ∙ sym (add-zero p)) in
    simp (put_other, h 4 (omega arith), h 3 (omega arith), h 2 (omega arith), h 1 (omega arith), z)

pub write_length : (w : List ℕ) (p : ℕ) (r : RelationTableRow) → length (write_row w p r) ≡ length w
unfolding write_row
write_length w p r = simp put_length

pub write_read : (w : List ℕ) (p : ℕ) (r : RelationTableRow) → p + 6 ≤ length w → r.pair < 4294967296 → r.left < 4294967296 → r.right < 4294967296
    → r.from.0 < 4294967296 → r.to.0 < 4294967296 → stored_row (write_row w p r) p ≡ r
unfolding write_row stored_row
write_read w p r within a b c d e =
    let w1 = put_at w p r.pair in
    let w2 = put_at w1 (p + 1) r.left in
    let w3 = put_at w2 (p + 2) r.right in
    let w4 = put_at w3 (p + 3) r.from.0 in
    let w5 = put_at w4 (p + 4) r.to.0 in
    let l1 : length w1 ≡ length w = simp put_length in
    let l2 : length w2 ≡ length w = simp put_length in
    let l3 : length w3 ≡ length w = simp put_length in
    let l4 : length w4 ≡ length w = simp put_length in
    let x1 : get_or w1 p 0 ≡ r.pair = put_same w p r.pair (omega arith) a in
    let x2 : get_or w2 (p + 1) 0 ≡ r.left = put_same w1 (p + 1) r.left (rw l1 (omega arith)) b in
    let x3 : get_or w3 (p + 2) 0 ≡ r.right = put_same w2 (p + 2) r.right (rw l2 (omega arith)) c in
    let x4 : get_or w4 (p + 3) 0 ≡ r.from.0 = put_same w3 (p + 3) r.from.0 (rw l3 (omega arith)) d in
    let x5 : get_or w5 (p + 4) 0 ≡ r.to.0 = put_same w4 (p + 4) r.to.0 (rw l4 (omega arith)) e in
    let later : (k : ℕ) → (k ≡ p + 4 → ⊥) → get_or w5 k 0 ≡ get_or w4 k 0 = λ k h. put_other w4 (p + 4) r.to.0 h in
    let late : (k : ℕ) → (k ≡ p + 4 → ⊥) → (k ≡ p + 3 → ⊥) → get_or w5 k 0 ≡ get_or w3 k 0 = λ k h h'. later k h ∙ put_other w3 (p + 3) r.from.0 h' in
    let y1 : get_or w3 p 0 ≡ r.pair = put_other w2 (p + 2) r.right (omega arith) ∙ put_other w1 (p + 1) r.left (omega arith) ∙ x1 in
    let y2 : get_or w3 (p + 1) 0 ≡ r.left = put_other w2 (p + 2) r.right (omega arith) ∙ x2 in
    let z1 = late p (omega arith) (omega arith) ∙ y1 in
    let z2 = late (p + 1) (omega arith) (omega arith) ∙ y2 in
    let z3 = late (p + 2) (omega arith) (omega arith) ∙ x3 in
    let z4 = later (p + 3) (omega arith) ∙ x4 in
    λ i. record { pair = z1 i; left = z2 i; right = z3 i; from = record { 0 = z4 i }; to = record { 0 = x5 i } }

module _ {n : ℕ} {m : ℕ → ℕ → ℕ} {word : ℕ → List ℕ} {count : ℕ} {S : ℕ → Type 0} {w : List ℕ} (W : WorkOk n m word count S w) where
  -- A store in a cell that is no row's.
  pub work_put : {i k : ℕ} (v : ℕ) → CellOfKind n i k → k < 8 → MayHold n S k v → WorkOk n m word count S (put_at w i v)
  work_put {i} {k} v s low h = record {
    cells = cells_put W.cells v s h;
    place = λ p in-S. rw (put_length w i v) (W.place p in-S);
    rows = λ p in-S. rw (read_same w (put_at w i v) p (λ d hd. put_other w i v (λ q. apart p in-S d hd q))) (W.rows p in-S);
  } where
    apart : (p : ℕ) → S p → (d : ℕ) → d < 5 → p + d ≡ i → ⊥
    apart p in-S d hd q =
        let kind : CellOfKind n (p + d) (12 - d) = row_spot (W.place p in-S) (12 - d) d (omega arith) (omega arith) in
        let e : k ≡ 12 - d = spot_once s (rw q at kind) in
        omega arith

-- The same cells, when more copies have begun.
module _ {S S' : ℕ → Type 0} (grow : (q : ℕ) → S q → S' q) where
  link_grow : {v : ℕ} → Link S v → Link S' v
  link_grow (Link.none z) = Link.none z
  link_grow (Link.to q in-S e) = Link.to q (grow q in-S) e

  holds_grow : (n k v : ℕ) → MayHold n S k v → MayHold n S' k v
  holds_grow n zero v h = link_grow h
  holds_grow n (suc zero) v h = link_grow h
  holds_grow n (suc (suc zero)) v h = h
  holds_grow n (suc (suc (suc zero))) v h = link_grow h
  holds_grow n (suc (suc (suc (suc zero)))) v h = link_grow h
  holds_grow n (suc (suc (suc (suc (suc zero))))) v h = h
  holds_grow n (suc (suc (suc (suc (suc (suc zero)))))) v h = h
  holds_grow n (suc (suc (suc (suc (suc (suc (suc zero))))))) v h = link_grow h
  holds_grow n (suc (suc (suc (suc (suc (suc (suc (suc k)))))))) v h = h

  cells_grow : {n : ℕ} {w : List ℕ} → CellsOk n S w → CellsOk n S' w
  cells_grow {n} {w} C = record { holds = λ i k s. holds_grow n k (get_or w i 0) (C.holds i k s) }

-- The five numbers of a row are no links.
cells_write : {n len : ℕ} {S : ℕ → Type 0} {w : List ℕ} {p : ℕ} → CellsOk n S w → Copy n len p → (r : RelationTableRow) → CellsOk n S (write_row w p r)
unfolding write_row
cells_write {n} {p = p} C c r =
    let first : CellOfKind n p 12 = rw add-zero at (row_spot c 12 0 (omega arith) refl) in
    let c1 = cells_put C r.pair first tt in
    let c2 = cells_put c1 r.left (row_spot c 11 1 (omega arith) refl) tt in
    let c3 = cells_put c2 r.right (row_spot c 10 2 (omega arith) refl) tt in
    let c4 = cells_put c3 r.from.0 (row_spot c 9 3 (omega arith) refl) tt in
    cells_put c4 r.to.0 (row_spot c 8 4 (omega arith) refl) tt

-- A right row stored as a copy: one that had begun, or a new one, so that S' is S with p.
module _ {n : ℕ} {m : ℕ → ℕ → ℕ} {word : ℕ → List ℕ} {count : ℕ} {S : ℕ → Type 0} {w : List ℕ} (W : WorkOk n m word count S w)
    {S' : ℕ → Type 0} (grow : (q : ℕ) → S q → S' q) (p : ℕ) (only : (q : ℕ) → S' q → (q ≡ p → ⊥) → S q)
    (c : Copy n (length w) p) {r : RelationTableRow} (ok : RowOk n m word count r) (limit : count ≤ 65535) where
  place_write : (q : ℕ) → S' q → Copy n (length (write_row w p r)) q
  place_write q in-S = rw (write_length w p r) (by (ℕ_discrete q p)) where
    by : Dec (q ≡ p) → Copy n (length w) q
    by (yes e) = rw e c
    by (no d) = W.place q (only q in-S d)

  rows_write : (q : ℕ) → S' q → RowOk n m word count (stored_row (write_row w p r) q)
  rows_write q in-S = by (ℕ_discrete q p) where
    by : Dec (q ≡ p) → RowOk n m word count (stored_row (write_row w p r) q)
    by (yes e) = rw (e, write_read w p r c.within (omega (arith, ok.small)) (omega (arith, ok.wide, ok.order)) (omega (arith, ok.wide)) (omega (arith, ok.from_below)) (omega (arith, ok.to_below))) ok
    by (no d) =
        let other = W.place q (only q in-S d) in
        rw (read_same w (write_row w p r) q (λ a ha. write_other w p r (λ b hb e. d (copy_once other c (omega arith) (omega arith) e)))) (W.rows q (only q in-S d))

  pub work_write : WorkOk n m word count S' (write_row w p r)
  work_write = record { cells = cells_write (cells_grow grow W.cells) c r; place = place_write; rows = rows_write }
