-- Lists in the work: the first copy is taken off, one is put at the end, and where the cells of a list are as they were, the list is.
use Prim.Native.Nat.{ℕ, suc, ◌+◌, ◌<◌, ◌≤◌}
use mathlib.Core.Path.{◌≡◌, refl, ◌∙◌}
use mathlib.Core.List.{List, [], ◌∷◌, ◌++◌}
use native.Mathlib.Nat.{add-zero, le_refl}
use native.Mathlib.Omega.{arith}
use lib.ListN.{get_or}
use Rattle.enumeration_rows.specs.declared.inner.SideOfGap.{SideOfGap}
use Rattle.enumeration_rows.specs.Rows.{stored_row}
use Rattle.enumeration_run_laws.proofs.Storing.{read_same}
use Rattle.enumeration_closure_laws.specs.Queues.{In, here, there, Once, last_link, copy_at, Chain, end, next, Waiter, Hand, Queue, SameStoredRows}
use Rattle.enumeration_closure_laws.proofs.Lists.{in_none, not_in, last_in}

chain_next : {w : List ℕ} {at p : ℕ} {ps : List ℕ} → Chain w at (p ∷ ps) → (at ≡ suc p) × Chain w (get_or w (p + 5) 0) ps
chain_next (next e c) = (e, c)

-- The first copy of a list in hand, and the rest from its link on.
pub hand_next : {n count pairs : ℕ} {side : SideOfGap} {w : List ℕ} {list at p : ℕ} {ps : List ℕ} → Hand n count pairs side w list at (p ∷ ps)
    → (at ≡ suc p) × Hand n count pairs side w list (get_or w (p + 5) 0) ps
hand_next H = ((chain_next H.chain).0, record { chain = (chain_next H.chain).1; mine = λ q i. H.mine q (there i); once = H.once.1 })

chain_same : {w w' : List ℕ} {at : ℕ} {ps : List ℕ} → ((q : ℕ) → In q ps → get_or w' (q + 5) 0 ≡ get_or w (q + 5) 0) → Chain w at ps → Chain w' at ps
chain_same h (end z) = end z
chain_same h (next {p = p} {ps} e c) = next {ps = ps} e (rw (h p (here refl)) (chain_same (λ q i. h q (there i)) c))

-- One more at the end: the last copy's link leads to it, and its own link is 0.
pub chain_last : {w w' : List ℕ} {at : ℕ} (ps : List ℕ) (q p : ℕ) → last_link ps ≡ suc q → Once ps → ((x : ℕ) → In x ps → (x ≡ q → ⊥) → get_or w' (x + 5) 0 ≡ get_or w (x + 5) 0)
    → get_or w' (q + 5) 0 ≡ suc p → get_or w' (p + 5) 0 ≡ 0 → Chain w at ps → Chain w' at (ps ++ p ∷ [])
chain_last [] q p l o same to ends c = absurd (omega arith)
chain_last (x ∷ []) q p l o same to ends c =
    let e : x ≡ q = omega arith in
    next {ps = p ∷ []} (chain_next c).0 (rw e (next {ps = []} to (end ends)))
chain_last {w = w} (x ∷ y ∷ ps) q p l o same to ends c =
    let d : x ≡ q → ⊥ = λ e. not_in (y ∷ ps) o.0 (rw (← e) at (last_in q (y ∷ ps) l)) in
    next {ps = y ∷ ps ++ p ∷ []} (chain_next c).0
    (rw (same x (here refl) d) (chain_last {at = get_or w (x + 5) 0} (y ∷ ps) q p l o.1 (λ z i. same z (there i)) to ends (chain_next c).1))

pub waiter_same : {n count count' pairs : ℕ} {side : SideOfGap} {w w' : List ℕ} {list p : ℕ} → count ≤ count' → stored_row w' p ≡ stored_row w p
    → Waiter n count pairs side w list p → Waiter n count' pairs side w' list p
waiter_same {n} {side = side} more same W = record {
  element = W.element;
  number = W.number;
  element_below = omega (arith, W.element_below);
  number_below = W.number_below;
  stands = W.stands;
  waits_in = rw same W.waits_in;
}

-- A list in hand is as it was, where the link and the row of each of its copies are.
pub hand_same : {n count count' pairs : ℕ} {side : SideOfGap} {w w' : List ℕ} {list at : ℕ} {ps : List ℕ} → count ≤ count'
    → ((q : ℕ) → In q ps → get_or w' (q + 5) 0 ≡ get_or w (q + 5) 0) → ((q : ℕ) → In q ps → stored_row w' q ≡ stored_row w q)
    → Hand n count pairs side w list at ps → Hand n count' pairs side w' list at ps
hand_same more links rows H = record {
  chain = chain_same links H.chain;
  mine = λ q i. waiter_same more (rows q i) (H.mine q i);
  once = H.once;
}

-- So is a whole list, where its three cells are too.
pub queue_same : {n count count' pairs : ℕ} {side : SideOfGap} {w w' : List ℕ} {list : ℕ} {ps : List ℕ} → count ≤ count'
    → ((q : ℕ) → In q ps → get_or w' (q + 5) 0 ≡ get_or w (q + 5) 0) → ((q : ℕ) → In q ps → stored_row w' q ≡ stored_row w q)
    → ((d : ℕ) → d < 3 → get_or w' (list + d) 0 ≡ get_or w (list + d) 0)
    → Queue n count pairs side w list ps → Queue n count' pairs side w' list ps
queue_same {w = w} {w'} {list} more links rows cells Q =
    let z : get_or w' list 0 ≡ get_or w list 0 = rw add-zero at (cells 0 (omega arith)) in
    record {
      hand = rw z (hand_same more links rows Q.hand);
      tail = cells 1 (omega arith) ∙ Q.tail;
      counted = cells 2 (omega arith) ∙ Q.counted;
    }

-- A list of none.
pub queue_none : {n count pairs : ℕ} {side : SideOfGap} {w : List ℕ} {list : ℕ} → ((d : ℕ) → d < 3 → get_or w (list + d) 0 ≡ 0) → Queue n count pairs side w list []
queue_none cells = record {
  hand = record { chain = end (rw add-zero at (cells 0 (omega arith))); mine = λ q i. absurd (in_none i); once = tt };
  tail = cells 1 (omega arith);
  counted = cells 2 (omega arith);
}

-- All cells of all copies are as they were.
pub record SameCopies (n count pairs : ℕ) (w w' : List ℕ) : Type 0 where
  pub same : (u k : ℕ) (side : SideOfGap) → u < count → k < pairs → (d : ℕ) → d < 6 → get_or w' (copy_at n u k side + d) 0 ≡ get_or w (copy_at n u k side + d) 0

module _ {n count pairs : ℕ} {w w' : List ℕ} (C : SameCopies n count pairs w w') where
  pub copies_rows : SameStoredRows n count pairs w w'
  copies_rows = record { same = λ u k s hu hk. read_same w w' (copy_at n u k s) (λ d hd. C.same u k s hu hk d (omega arith)) }

  module _ {side : SideOfGap} {list q : ℕ} (W : Waiter n count pairs side w list q) where
    waiter_link : get_or w' (q + 5) 0 ≡ get_or w (q + 5) 0
    waiter_link = rw W.stands (C.same W.element W.number side W.element_below W.number_below 5 (omega arith))

    waiter_row : stored_row w' q ≡ stored_row w q
    waiter_row = rw W.stands (copies_rows.same W.element W.number side W.element_below W.number_below)

  pub copies_hand : {side : SideOfGap} {list at : ℕ} {ps : List ℕ} → Hand n count pairs side w list at ps → Hand n count pairs side w' list at ps
  copies_hand H = hand_same (le_refl count) (λ q i. waiter_link (H.mine q i)) (λ q i. waiter_row (H.mine q i)) H

  pub copies_queue : {side : SideOfGap} {list : ℕ} {ps : List ℕ} → ((d : ℕ) → d < 3 → get_or w' (list + d) 0 ≡ get_or w (list + d) 0)
      → Queue n count pairs side w list ps → Queue n count pairs side w' list ps
  copies_queue cells Q = queue_same (le_refl count) (λ q i. waiter_link (Q.hand.mine q i)) (λ q i. waiter_row (Q.hand.mine q i)) cells Q
