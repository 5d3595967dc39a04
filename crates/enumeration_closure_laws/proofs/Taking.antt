-- `Pushed` holds after a store in the cell of a place that links the stack, and `Emptied` after a place has been emptied.
use Prim.Native.Nat.{ℕ, suc, ◌+◌, ◌*◌, ◌-◌, ◌<◌, ◌≤◌}
use mathlib.Core.Path.{◌≡◌, refl, sym, ◌∙◌}
use mathlib.Core.List.{List, []}
use native.Mathlib.Nat.{add-zero}
use native.Mathlib.Decide.{ℕ_discrete}
use native.Mathlib.Omega.{arith}
use lib.ListN.{get_or, length}
use Rattle.egg.specs.Table.{put_at}
use Rattle.enumeration_rows.specs.declared.inner.SideOfGap.{SideOfGap}
use Rattle.enumeration_rows.specs.declared.inner.SideOfGap.TheVariants.{Left, Right}
use Rattle.enumeration_rows.specs.Rows.{work_width, place_at}
use Rattle.enumeration_wake.specs.Waking.{below_at}
use Rattle.enumeration_facts.specs.Facts.{emptied}
use Rattle.enumeration_run_laws.specs.Invariant.{CellOfKind}
use Rattle.egg.proofs.Cells.{put_same, put_other, put_length, inside}
use Rattle.enumeration_run_laws.proofs.Spots.{spot_once, row_spot, place_inside}
use Rattle.enumeration_run_laws.proofs.Waiting.{place_spot}
use Rattle.enumeration_closure_laws.specs.Queues.{place_of, list_of, copy_at, Waiting, Queue, Queues, Sized, Emptied, Pushed}
use Rattle.enumeration_closure_laws.proofs.Places.{bit, bit_below, list_stands, place_cell, copy_is}
use Rattle.enumeration_closure_laws.proofs.Choosing.{choose, choose_yes, choose_no, same_place}
use Rattle.enumeration_closure_laws.proofs.Chains.{queue_none, SameCopies, copies_rows, copies_hand, copies_queue}

place_at_lem : (n e g d : ℕ) → place_of n e g + d ≡ e * work_width n + (10 * g + d)
unfolding place_at
place_at_lem n e g d = omega arith

list_at_lem : (n : ℕ) (s : SideOfGap) (e g d : ℕ) → list_of n s e g + d ≡ place_of n e g + (3 * bit s + d)
list_at_lem n Left e g d = omega arith
list_at_lem n Right e g d = omega arith

-- Nothing is changed but cells of the place of e and g.
record AtPlace (n e g : ℕ) (w w' : List ℕ) : Type 0 where
  other : (j : ℕ) → ((d : ℕ) → d < 7 → j ≡ place_of n e g + d → ⊥) → get_or w' j 0 ≡ get_or w j 0

module _ {n count pairs : ℕ} {w w' : List ℕ} (S : Sized n count pairs w) {e g : ℕ} (he : e < count) (hg : g < n) (A : AtPlace n e g w w') where
  place_copies : SameCopies n count pairs w w'
  place_copies = record { same = λ u k s hu hk d hd. A.other (copy_at n u k s + d) (apart u k s hu hk d hd) } where
    apart : (u k : ℕ) (s : SideOfGap) → u < count → k < pairs → (d : ℕ) → d < 6 → (d' : ℕ) → d' < 7 → copy_at n u k s + d ≡ place_of n e g + d' → ⊥
    apart u k s hu hk d hd d' hd' q =
        let kind : CellOfKind n (copy_at n u k s + d) (12 - d) = row_spot (copy_is S hu hk s) (12 - d) d hd (omega arith) in
        let r = spot_once (rw q at kind) (place_spot (record { 0 = e }) (record { 0 = g }) hg d' hd') in
        omega arith

  place_lists : (s : SideOfGap) (x h : ℕ) → h < n → ((x ≡ e) × (h ≡ g) → ⊥) → (d : ℕ) → d < 3 → get_or w' (list_of n s x h + d) 0 ≡ get_or w (list_of n s x h + d) 0
  place_lists s x h hh away d hd = A.other (list_of n s x h + d) (λ d' hd' q.
      let r = place_cell x e hh hg (omega (arith, bit_below s)) (omega arith) (sym (list_stands n s x h d) ∙ q ∙ place_at_lem n e g d') in
      away (r.0, r.1))

  place_beyond : (i : ℕ) → count * work_width n ≤ i → get_or w' i 0 ≡ get_or w i 0
  place_beyond i hi = A.other i (λ d hd q. omega (arith, place_at_lem n e g d, inside he (place_inside {k = d} hg (omega arith))))

module _ {n count pairs : ℕ} {w : List ℕ} {held : Waiting} (S : Sized n count pairs w) (Q : Queues n count pairs w held) (e g : ℕ) (he : e < count) (hg : g < n) where
  -- A store in the link of the stack.
  module _ (v : ℕ) where
    push_at : AtPlace n e g w (put_at w (below_at (place_of n e g)) v)
    push_at = record { other = λ j h. put_other w (place_of n e g + 6) v (h 6 (omega arith)) }

    push_list : (s : SideOfGap) (x h : ℕ) → h < n → (d : ℕ) → d < 3 → get_or (put_at w (below_at (place_of n e g)) v) (list_of n s x h + d) 0 ≡ get_or w (list_of n s x h + d) 0
    push_list s x h hh d hd = put_other w (place_of n e g + 6) v (λ q.
        let b = bit_below s in
        let r = place_cell x e hh hg (omega arith) (omega arith) (sym (list_stands n s x h d) ∙ q ∙ place_at_lem n e g 6) in
        omega (arith, r.2))

    pub pushes : Pushed n count pairs w (put_at w (below_at (place_of n e g)) v) held
    pushes =
        let copies = place_copies S he hg push_at in
        record {
          queues = record { queue = λ s x h hx hh. copies_queue copies (push_list s x h hh) (Q.queue s x h hx hh) };
          rows = copies_rows copies;
          beyond = record { long = put_length w (place_of n e g + 6) v; beyond = place_beyond S he hg push_at };
          hands = λ s list at ps H. copies_hand copies H;
        }

-- A place that is emptied: its cells are zero, and no other changes.
module _ (w : List ℕ) (place : ℕ) where
  emptied_other : (j : ℕ) → ((d : ℕ) → d < 7 → j ≡ place + d → ⊥) → get_or (emptied w place) j 0 ≡ get_or w j 0
  unfolding emptied
  emptied_other j h =
      let z : j ≡ place → ⊥ = λ q. h 0 (omega arith) (q ∙ sym (add-zero place)) in
      simp (put_other, h 6 (omega arith), h 5 (omega arith), h 4 (omega arith), h 3 (omega arith), h 2 (omega arith), h 1 (omega arith), z)

  emptied_long : length (emptied w place) ≡ length w
  unfolding emptied
  emptied_long = simp put_length

-- What is zero stays so, and so does each cell in which 0 is stored.
Zeros : ℕ → ℕ → List ℕ → Type 0
Zeros place k w = (d : ℕ) → d < k → get_or w (place + d) 0 ≡ 0

zeros_put : (place k : ℕ) (w : List ℕ) → place + k < length w → Zeros place k w → Zeros place (suc k) (put_at w (place + k) 0)
unfolding Zeros
zeros_put place k w within zeros d hd = by (ℕ_discrete d k) where
  by : Dec (d ≡ k) → get_or (put_at w (place + k) 0) (place + d) 0 ≡ 0
  by (yes q) = rw q (put_same w (place + k) 0 within (omega arith))
  by (no f) = put_other w (place + k) 0 (omega arith) ∙ zeros d (omega arith)

emptied_zero : (w : List ℕ) (place : ℕ) → place + 6 < length w → Zeros place 7 (emptied w place)
unfolding emptied
emptied_zero w place within =
    let w0 = put_at w place 0 in
    let w1 = put_at w0 (place + 1) 0 in
    let w2 = put_at w1 (place + 2) 0 in
    let w3 = put_at w2 (place + 3) 0 in
    let w4 = put_at w3 (place + 4) 0 in
    let w5 = put_at w4 (place + 5) 0 in
    let l0 : length w0 ≡ length w = simp put_length in
    let l1 : length w1 ≡ length w = simp put_length in
    let l2 : length w2 ≡ length w = simp put_length in
    let l3 : length w3 ≡ length w = simp put_length in
    let l4 : length w4 ≡ length w = simp put_length in
    let l5 : length w5 ≡ length w = simp put_length in
    let none : Zeros place 0 w = unfold Zeros in λ d hd. absurd (omega arith) in
    let z0 : Zeros place 1 w0 = rw add-zero at (zeros_put place 0 w (omega arith) none) in
    let z1 = zeros_put place 1 w0 (omega arith) z0 in
    let z2 = zeros_put place 2 w1 (omega arith) z1 in
    let z3 = zeros_put place 3 w2 (omega arith) z2 in
    let z4 = zeros_put place 4 w3 (omega arith) z3 in
    let z5 = zeros_put place 5 w4 (omega arith) z4 in
    zeros_put place 6 w5 (omega arith) z5

module _ {n count pairs : ℕ} {w : List ℕ} {held : Waiting} (S : Sized n count pairs w) (Q : Queues n count pairs w held) (e g : ℕ) (he : e < count) (hg : g < n) where
  -- The same lists, but none at the place.
  less : Waiting
  less s x h = choose (same_place x e h g) [] (held s x h)

  empty_at : AtPlace n e g w (emptied w (place_of n e g))
  empty_at = record { other = emptied_other w (place_of n e g) }

  empty_list : (s : SideOfGap) (d : ℕ) → d < 3 → get_or (emptied w (place_of n e g)) (list_of n s e g + d) 0 ≡ 0
  unfolding Zeros
  empty_list s d hd =
      let within : place_of n e g + 6 < length w = omega (arith, S.room, place_at_lem n e g 6, inside he (place_inside {k = 6} hg (omega arith))) in
      rw (list_at_lem n s e g d) (emptied_zero w (place_of n e g) within (3 * bit s + d) (omega (arith, bit_below s)))

  less_queue : (s : SideOfGap) (x h : ℕ) → x < count → h < n → Queue n count pairs s (emptied w (place_of n e g)) (list_of n s x h) (less s x h)
  unfolding less
  less_queue s x h hx hh = by (same_place x e h g) where
    by : (d : Dec ((x ≡ e) × (h ≡ g))) → Queue n count pairs s (emptied w (place_of n e g)) (list_of n s x h) (choose d [] (held s x h))
    by (yes q) = queue_none (λ d hd. rw (q.0, q.1) (empty_list s d hd))
    by (no f) = copies_queue (place_copies S he hg empty_at) (place_lists S he hg empty_at s x h hh f) (Q.queue s x h hx hh)

  pub takes : Emptied n count pairs w (emptied w (place_of n e g)) held e g
  unfolding less
  takes =
      let copies = place_copies S he hg empty_at in
      record {
        held' = less;
        queues = record { queue = less_queue };
        empty = λ s. choose_yes (same_place e e g g) [] (held s e g) (refl, refl);
        others = λ s x h f. choose_no (same_place x e h g) [] (held s x h) f;
        hands = λ s. copies_hand copies (Q.queue s e g he hg).hand;
        counts = λ s. (Q.queue s e g he hg).counted;
        rows = copies_rows copies;
        six = λ i k f. emptied_other w (place_of n e g) i (six i k f);
        beyond = record { long = emptied_long w (place_of n e g); beyond = place_beyond S he hg empty_at };
      } where
        six : (i : ℕ) → CellOfKind n i 6 → (i ≡ place_of n e g + 6 → ⊥) → (d : ℕ) → d < 7 → i ≡ place_of n e g + d → ⊥
        six i k f d hd q =
            let r : 6 ≡ d = spot_once (rw q at k) (place_spot (record { 0 = e }) (record { 0 = g }) hg d hd) in
            f (rw r q)
