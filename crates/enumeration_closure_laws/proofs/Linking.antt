-- The cell in which the link to one more copy of a list is stored: it is the head of that list or the link of its last copy, and no other cell of the work.
use Prim.Native.Nat.{ℕ, suc, ◌+◌, ◌*◌, ◌-◌, ◌<◌}
use mathlib.Core.Path.{◌≡◌, refl, sym, ap, ◌∙◌}
use mathlib.Core.List.{List}
use native.Mathlib.Nat.{add-zero}
use native.Mathlib.Omega.{arith}
use lib.ListN.{length}
use Rattle.enumeration_rows.specs.declared.inner.SideOfGap.{SideOfGap}
use Rattle.enumeration_rows.specs.Rows.{work_width, stored_row, list_at}
use Rattle.enumeration_run_laws.specs.Invariant.{CellOfKind, Copy}
use Rattle.enumeration_run_laws.proofs.Spots.{spot_once, row_spot, copy_once}
use Rattle.enumeration_closure_laws.specs.Queues.{list_of, last_link, Waiter, Queue, Sized}
use Rattle.enumeration_closure_laws.proofs.Lists.{last_in}
use Rattle.enumeration_closure_laws.proofs.Places.{bit, bit_below, list_spot, list_below, cell_once, copy_apart, copy_is, copy_below}
use Rattle.enumeration_closure_laws.proofs.Joining.{LinkToLast, first, after}

-- The copies of a list as derived's copies, and the side and the list of a copy.
module _ {n count pairs : ℕ} {w : List ℕ} (S : Sized n count pairs w) where
  pub waiter_copy : {side : SideOfGap} {list p : ℕ} → Waiter n count pairs side w list p → Copy n (length w) p
  waiter_copy {side} W = rw W.stands (copy_is S W.element_below W.number_below side)

  pub waiter_below : {side : SideOfGap} {list p : ℕ} → Waiter n count pairs side w list p → p + 5 < count * work_width n
  waiter_below {side} W = rw W.stands (copy_below S W.element_below W.number_below side 5 (omega arith))

  waiter_side : {side s : SideOfGap} {list list' p : ℕ} → Waiter n count pairs side w list p → Waiter n count pairs s w list' p → side ≡ s
  waiter_side {side} {s} W W' =
      (copy_apart n W.number W'.number S.paired W.number_below W'.number_below W.element W'.element side s (sym W.stands ∙ W'.stands)).2

  pub waiter_list : {side s : SideOfGap} {list list' p : ℕ} → Waiter n count pairs side w list p → Waiter n count pairs s w list' p → list ≡ list'
  waiter_list {side} {s} {p = p} W W' = sym W.waits_in ∙ ap (λ x. list_at n (stored_row w p) x) (waiter_side W W') ∙ W'.waits_in

-- The link of the new last copy, and which cells it may be.
module _ {n count pairs : ℕ} {w : List ℕ} (S : Sized n count pairs w) {side : SideOfGap} {e g : ℕ} (he : e < count) (hg : g < n) {ps : List ℕ}
    (Q : Queue n count pairs side w (list_of n side e g) ps) where
  pub last_waits : {q : ℕ} → last_link ps ≡ suc q → Waiter n count pairs side w (list_of n side e g) q
  last_waits {q} l = Q.hand.mine q (last_in q ps l)

  head_spot : CellOfKind n (list_of n side e g) (3 * bit side)
  head_spot = rw (add-zero (list_of n side e g), add-zero (3 * bit side)) at (list_spot side e g hg 0 (omega arith))

  -- Of a copy it is only the link of the last one, and of a list only the head of this one.
  pub link_copy : {link : ℕ} → LinkToLast (list_of n side e g) ps link → {x : ℕ} → Copy n (length w) x → (d : ℕ) → d < 6 → x + d ≡ link → (d ≡ 5) × (last_link ps ≡ suc x)
  link_copy (first z at) {x} c d hd q =
      let kind : CellOfKind n (x + d) (12 - d) = row_spot c (12 - d) d hd (omega arith) in
      let r = spot_once (rw (q ∙ at) at kind) head_spot in
      absurd (omega (arith, bit_below side))
  link_copy (after y l at) {x} c d hd q =
      let r : x ≡ y = copy_once c (waiter_copy S (last_waits l)) hd (omega arith) (q ∙ at) in
      (omega arith, rw r l)

  pub link_list : {link : ℕ} → LinkToLast (list_of n side e g) ps link → (s : SideOfGap) (x h : ℕ) → h < n → (d : ℕ) → d < 3 → list_of n s x h + d ≡ link → (s ≡ side) × (x ≡ e) × (h ≡ g) × (d ≡ 0)
  link_list (first z at) s x h hh d hd q = cell_once s side x e hh hg d 0 hd (omega arith) (q ∙ at ∙ sym (add-zero (list_of n side e g)))
  link_list (after y l at) s x h hh d hd q =
      let r = spot_once (rw (q ∙ at) at (list_spot s x h hh d hd)) (row_spot (waiter_copy S (last_waits l)) 7 5 (omega arith) refl) in
      absurd (omega (arith, bit_below s))

  pub link_six : {link : ℕ} → LinkToLast (list_of n side e g) ps link → CellOfKind n link 6 → ⊥
  link_six (first z at) k = let r = spot_once (rw at at k) head_spot in omega (arith, bit_below side)
  link_six (after y l at) k = let r = spot_once (rw at at k) (row_spot (waiter_copy S (last_waits l)) 7 5 (omega arith) refl) in omega arith

  pub link_below : {link : ℕ} → LinkToLast (list_of n side e g) ps link → link < count * work_width n
  link_below (first z at) = omega (arith, list_below side he hg 0 (omega arith))
  link_below (after y l at) = omega (arith, waiter_below S (last_waits l))
