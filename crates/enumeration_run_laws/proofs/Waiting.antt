-- Putting a copy at the end of a list keeps the work right, and so do the rows of a new element.
use Prim.Native.Nat.{ℕ, zero, suc, ◌+◌, ◌*◌, ◌-◌, ◌<◌, ◌≤◌}
use mathlib.Core.Path.{◌≡◌, refl, ◌∙◌}
use mathlib.Core.Logic.{◌⊎◌, inl, inr, ⊎_elim}
use mathlib.Core.List.{List}
use native.Mathlib.Nat.{add-zero}
use native.Mathlib.Omega.{arith}
use borrow.Author.Tests.{ne_eqb}
use lib.ListN.{get_or, length}
use Rattle.theory.specs.Presentation.{pairs_below, order_of}
use Rattle.egg.specs.declared.GroupElementId.{GroupElementId}
use Rattle.egg.specs.declared.GeneratorId.{GeneratorId}
use Rattle.egg.specs.Table.{put_at}
use Rattle.enumeration_rows.specs.declared.inner.RelationTableRow.{RelationTableRow}
use Rattle.enumeration_rows.specs.declared.inner.SideOfGap.{SideOfGap}
use Rattle.enumeration_rows.specs.declared.inner.SideOfGap.TheVariants.{Left, Right}
use Rattle.egg.specs.Pairs.{pair_code}
use Rattle.enumeration_rows.specs.Rows.{work_width, place_at, rows_at, gen_of, link_at, appended, list_at, waits, added_row, add_rows_from}
use Rattle.enumeration_run_laws.specs.Invariant.{RowOk, CellOfKind, in_place, Copy, Link, MayHold, WorkOk, Working}
use Rattle.egg.proofs.Cells.{put_length, inside}
use Rattle.enumeration_run_laws.proofs.Spots.{row_spot, copy_inside}
use Rattle.enumeration_run_laws.proofs.Rowing.{new_row_ok}
use Rattle.enumeration_run_laws.proofs.Storing.{work_put, write_length, work_write}

-- The cells of a list: a head and a tail that are links, and a count.
pub record Threads (n : ℕ) (S : ℕ → Type 0) (list : ℕ) : Type 0 where
  pub k0 : ℕ
  pub k1 : ℕ
  pub k2 : ℕ
  pub head : CellOfKind n list k0
  pub tail : CellOfKind n (list + 1) k1
  pub count : CellOfKind n (list + 2) k2
  pub low : (k0 < 6) × (k1 < 6) × (k2 < 6)
  pub to_head : (v : ℕ) → Link S v → MayHold n S k0 v
  pub to_tail : (v : ℕ) → Link S v → MayHold n S k1 v
  pub from_tail : (v : ℕ) → MayHold n S k1 v → Link S v
  pub to_count : (v : ℕ) → MayHold n S k2 v

pub place_spot : {n : ℕ} (e : GroupElementId) (g : GeneratorId) → g.0 < n → (k : ℕ) → k < 7 → CellOfKind n (place_at n e g + k) k
unfolding place_at
place_spot e g h k low = in_place e.0 g.0 h low (omega arith)

module _ {n : ℕ} {S : ℕ → Type 0} where
  left_list : (e : GroupElementId) (g : GeneratorId) → g.0 < n → Threads n S (place_at n e g)
  left_list e g h = record {
    k0 = 0;
    k1 = 1;
    k2 = 2;
    head = rw add-zero at (place_spot e g h 0 (omega arith));
    tail = place_spot e g h 1 (omega arith);
    count = place_spot e g h 2 (omega arith);
    low = omega arith;
    to_head = λ v x. x;
    to_tail = λ v x. x;
    from_tail = λ v x. x;
    to_count = λ v. tt;
  }

  right_list : (e : GroupElementId) (g : GeneratorId) → g.0 < n → Threads n S (place_at n e g + 3)
  right_list e g h =
      let p : place_at n e g + 4 ≡ place_at n e g + 3 + 1 = omega arith in
      let q : place_at n e g + 5 ≡ place_at n e g + 3 + 2 = omega arith in
      record {
        k0 = 3;
        k1 = 4;
        k2 = 5;
        head = place_spot e g h 3 (omega arith);
        tail = rw p at (place_spot e g h 4 (omega arith));
        count = rw q at (place_spot e g h 5 (omega arith));
        low = omega arith;
        to_head = λ v x. x;
        to_tail = λ v x. x;
        from_tail = λ v x. x;
        to_count = λ v. tt;
      }

  pub list_of : {m : ℕ → ℕ → ℕ} {word : ℕ → List ℕ} {count : ℕ} {r : RelationTableRow} → RowOk n m word count r → (side : SideOfGap) → Threads n S (list_at n r side)
  list_of {r = r} ok Left = left_list r.from (gen_of r.pair r.left) (ok.gens r.left)
  list_of {r = r} ok Right = right_list r.to (gen_of r.pair r.right) (ok.gens r.right)

module _ {n : ℕ} {m : ℕ → ℕ → ℕ} {word : ℕ → List ℕ} {count : ℕ} {S : ℕ → Type 0} where
  link_cell : {w : List ℕ} {list : ℕ} → WorkOk n m word count S w → Threads n S list → (tail : ℕ) → Link S tail → {at : ℕ} → S at
      → WorkOk n m word count S (put_at w (link_at list tail) (at + 1))
  link_cell {w} {list} W T tail (Link.none z) {at} in-S = rw z (work_put W (at + 1) T.head (omega (arith, T.low)) (T.to_head (at + 1) (Link.to at in-S (omega arith))))
  link_cell {w} {list} W T tail (Link.to p in-P e) {at} in-S =
      let d : tail ≡ 0 → ⊥ = omega arith in
      let z : link_at list tail ≡ p + 5 = simp (ne_eqb _ _ d) (omega arith) in
      rw z (work_put W (at + 1) (row_spot (W.place p in-P) 7 5 (omega arith) refl) (omega arith) (Link.to at in-S (omega arith)))

  appended_ok : {w : List ℕ} {list at : ℕ} → WorkOk n m word count S w → Threads n S list → S at → WorkOk n m word count S (appended w list at)
  unfolding appended
  appended_ok {w} {list} {at} W T in-S =
      let next : Link S (at + 1) = Link.to at in-S (omega arith) in
      let tail = T.from_tail _ (W.cells.holds (list + 1) T.k1 T.tail) in
      let a = work_put W 0 (row_spot (W.place at in-S) 7 5 (omega arith) refl) (omega arith) (Link.none refl) in
      let b = link_cell a T (get_or w (list + 1) 0) tail in-S in
      let c = work_put b (at + 1) T.tail (omega (arith, T.low)) (T.to_tail _ next) in
      work_put c _ T.count (omega (arith, T.low)) (T.to_count _)

  pub waits_ok : {w : List ℕ} → WorkOk n m word count S w → count ≤ 65535 → {at : ℕ} → S at → {r : RelationTableRow} → RowOk n m word count r → (side : SideOfGap)
      → WorkOk n m word count S (waits w n at r side)
  unfolding waits
  waits_ok W limit {at} in-S ok side =
      appended_ok (work_write W (λ q x. x) at (λ q x d. x) (W.place at in-S) ok limit) (list_of ok side) in-S

-- A copy that begins.
pub begins_ok : {n : ℕ} {m : ℕ → ℕ → ℕ} {word : ℕ → List ℕ} {count : ℕ} {S : ℕ → Type 0} {w : List ℕ} → WorkOk n m word count S w → count ≤ 65535 → {at : ℕ} → Copy n (length w) at
    → {r : RelationTableRow} → RowOk n m word count r → (side : SideOfGap) → WorkOk n m word count (λ q. S q ⊎ (q ≡ at)) (waits w n at r side)
unfolding waits
begins_ok W limit {at} c ok side =
    appended_ok (work_write W (λ q x. inl x) at (λ q x d. ⊎_elim (λ y. y) (λ y. absurd (d y)) x) c ok limit) (list_of ok side) (inr refl)

appended_length : (w : List ℕ) (list at : ℕ) → length (appended w list at) ≡ length w
unfolding appended
appended_length w list at = simp put_length

pub waits_length : (w : List ℕ) (n at : ℕ) (r : RelationTableRow) (side : SideOfGap) → length (waits w n at r side) ≡ length w
unfolding waits
waits_length w n at r side = appended_length _ _ at ∙ write_length w at r

added_length : (w : List ℕ) (n : ℕ) (e : GroupElementId) (at pair order : ℕ) → length (added_row w n e at pair order) ≡ length w
unfolding added_row
added_length w n e at pair order = waits_length _ n (at + 6) _ Right ∙ waits_length w n at _ Left

pub added_rows_length : (f : ℕ) (w o : List ℕ) (n : ℕ) (e : GroupElementId) (k : ℕ) → length (add_rows_from f w o n e k) ≡ length w
unfolding add_rows_from
added_rows_length zero w o n e k = refl
added_rows_length (suc f) w o n e k = added_rows_length f _ o n e (k + 1) ∙ added_length w n e _ (pair_code k) (get_or o k 0)

square : (n : ℕ) → n * (n - 1) + n ≡ n * n
square zero = refl
square (suc n) = let q : suc n - 1 ≡ n = omega arith in rw q (omega arith)

pub pairs_twice : (n : ℕ) → 2 * pairs_below n ≡ n * (n - 1)
pairs_twice zero = refl
pairs_twice (suc n) = omega (arith, pairs_twice n, square n, square (suc n))

pub copy_at_lem : (n room : ℕ) {len : ℕ} (e : GroupElementId) → e.0 < room → room * work_width n ≤ len → (j : ℕ) → j < n * (n - 1) → Copy n len (rows_at n e + 6 * j)
unfolding rows_at
copy_at_lem n room e he enough j hj = record {
  element = e.0;
  number = j;
  number_below = hj;
  stands = omega arith;
  within = omega (arith, enough, inside he (copy_inside n {d = 5} hj (omega arith)));
}

module _ {n room : ℕ} (o : List ℕ) (few : n ≤ 8) (full : length o ≡ pairs_below n) (right : (k : ℕ) → k < length o → (1 ≤ get_or o k 0) × (get_or o k 0 < 32768))
    {word : ℕ → List ℕ} {count : ℕ} (limit : count ≤ 65535) (e : GroupElementId) (he : e.0 < room) (below : e.0 < count) where
  -- The two copies of a pair's row.
  added_ok : (w : List ℕ) → room * work_width n ≤ length w → (k : ℕ) → k < length o → Working n (order_of o) word count w
      → Working n (order_of o) word count (added_row w n e (rows_at n e + 12 * k) (pair_code k) (get_or o k 0))
  unfolding added_row
  added_ok w enough k hk W =
      let ok = new_row_ok o few full right {word = word} {count = count} e k hk below in
      let p : rows_at n e + 6 * (2 * k) ≡ rows_at n e + 12 * k = omega arith in
      let q : rows_at n e + 6 * (2 * k + 1) ≡ rows_at n e + 12 * k + 6 = omega arith in
      let c = rw p at (copy_at_lem n room e he enough (2 * k) (omega (arith, pairs_twice n))) in
      let d = rw q at (copy_at_lem n room {len = length w} e he enough (2 * k + 1) (omega (arith, pairs_twice n))) in
      record { begun = _; right = begins_ok (begins_ok W.right limit c ok Left) limit (rw (waits_length w n _ _ Left) d) ok Right }

  pub added_rows_ok : (f : ℕ) (w : List ℕ) (k : ℕ) → room * work_width n ≤ length w → f + k ≤ length o → Working n (order_of o) word count w
      → Working n (order_of o) word count (add_rows_from f w o n e k)
  unfolding add_rows_from
  added_rows_ok zero w k enough h W = W
  added_rows_ok (suc f) w k enough h W = added_rows_ok f _ (k + 1) (rw added_length enough) (omega arith) (added_ok w enough k (omega arith) W)
