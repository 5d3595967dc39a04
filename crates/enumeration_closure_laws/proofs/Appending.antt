-- `Appended` holds after `waits`: the copy's list has it for its last, and every other list is as it was.
use Prim.Native.Nat.{ℕ, suc, ◌+◌, ◌*◌, ◌-◌, ◌<◌, ◌≤◌}
use mathlib.Core.Path.{◌≡◌, refl, sym, ap, ◌∙◌}
use mathlib.Core.Logic.{◌⊎◌, inl, inr, ⊎_elim}
use mathlib.Core.List.{List, [], ◌∷◌, ◌++◌}
use native.Mathlib.Nat.{add-zero, le_refl}
use native.Mathlib.Omega.{arith}
use lib.ListN.{get_or, length, length-append}
use Rattle.enumeration_rows.specs.declared.inner.RelationTableRow.{RelationTableRow}
use Rattle.enumeration_rows.specs.declared.inner.SideOfGap.{SideOfGap}
use Rattle.enumeration_rows.specs.Rows.{work_width, stored_row, list_at, waits}
use Rattle.enumeration_run_laws.specs.Invariant.{CellOfKind, Copy}
use Rattle.enumeration_run_laws.specs.Stack.{Absent, SameStackLinks}
use Rattle.enumeration_run_laws.proofs.Spots.{spot_once, row_spot, copy_once}
use Rattle.enumeration_run_laws.proofs.Storing.{read_same}
use Rattle.enumeration_closure_laws.specs.Queues.{In, here, list_of, copy_at, last_link, Chain, end, next, Waiter, Hand, Queue, Waiting, Queues, Sized, SameBeyond, RowFits, Appended}
use Rattle.enumeration_closure_laws.proofs.Lists.{in_left, in_right, in_append, in_one, absent, not_in, once_last, last_link_lem, last_in, once_length}
use Rattle.enumeration_closure_laws.proofs.Places.{bit_below, list_spot, list_below, cell_once, list_once, copy_apart, copy_is, copy_below, work_small}
use Rattle.enumeration_closure_laws.proofs.Choosing.{choose, choose_yes, choose_no, same_list}
use Rattle.enumeration_closure_laws.proofs.Chains.{chain_last, waiter_same, hand_same}
use Rattle.enumeration_closure_laws.proofs.Joining.{LinkToLast, first, after, linked, CellsApart, CellsWithin, CopyJoined, waits_joined}
use Rattle.enumeration_closure_laws.proofs.Linking.{waiter_copy, waiter_below, waiter_list, last_waits, link_copy, link_list, link_six, link_below}

-- The lists with one copy more.
abbrev longer : Waiting → SideOfGap → ℕ → ℕ → ℕ → Waiting
longer held side e g p s x h = choose (same_list s side x e h g) (held s x h ++ p ∷ []) (held s x h)

module _ {n count pairs : ℕ} {w : List ℕ} {held : Waiting} (S : Sized n count pairs w) (Q : Queues n count pairs w held) (side : SideOfGap) {u k e g : ℕ} (r : RelationTableRow)
    (hu : u < count) (hk : k < pairs) (he : e < count) (hg : g < n) (fits : list_at n r side ≡ list_of n side e g)
    (fresh : (x h : ℕ) → x < count → h < n → In (copy_at n u k side) (held side x h) → ⊥) where
  own : Queue n count pairs side w (list_of n side e g) (held side e g)
  own = Q.queue side e g he hg

  copy : Copy n (length w) (copy_at n u k side)
  copy = copy_is S hu hk side

  -- The copy is in no list, of either side.
  none : (s : SideOfGap) (x h : ℕ) → x < count → h < n → In (copy_at n u k side) (held s x h) → ⊥
  none s x h hx hh i =
      let W = (Q.queue s x h hx hh).hand.mine (copy_at n u k side) i in
      let q : s ≡ side = (copy_apart n W.number k S.paired W.number_below hk W.element u s side (sym W.stands)).2 in
      fresh x h hx hh (rw q at i)

  few : length (held side e g) ≤ count * work_width n
  few = once_length (count * work_width n) (held side e g) own.hand.once (λ p i. omega (arith, waiter_below S (own.hand.mine p i)))

  apart : {link : ℕ} → LinkToLast (list_of n side e g) (held side e g) link → CellsApart (list_of n side e g) (copy_at n u k side) link
  apart L = record {
    copy_link = λ d hd q. none side e g he hg (last_in _ (held side e g) (link_copy S he hg own L copy d hd q).1);
    copy_tail = λ d hd q. tails d hd 1 (omega arith) q;
    copy_count = λ d hd q. tails d hd 2 (omega arith) q;
    link_tail = λ q. let x = link_list S he hg own L side e g hg 1 (omega arith) (sym q) in omega (arith, x.3);
    link_count = λ q. let x = link_list S he hg own L side e g hg 2 (omega arith) (sym q) in omega (arith, x.3);
  } where
    tails : (d : ℕ) → d < 6 → (c : ℕ) → c < 3 → copy_at n u k side + d ≡ list_of n side e g + c → ⊥
    tails d hd c hc q =
        let kind : CellOfKind n (copy_at n u k side + d) (12 - d) = row_spot copy (12 - d) d hd (omega arith) in
        let x = spot_once (rw q at kind) (list_spot side e g hg c hc) in
        omega (arith, bit_below side)

  within : {link : ℕ} → LinkToLast (list_of n side e g) (held side e g) link → CellsWithin (list_of n side e g) (copy_at n u k side) link (length (held side e g) + 1) (length w)
  within L = record {
    copy_within = copy.within;
    link_within = omega (arith, S.room, link_below S he hg own L);
    list_within = omega (arith, S.room, list_below side he hg 2 (omega arith));
    link_small = omega (arith, work_small S, copy_below S hu hk side 0 (omega arith));
    count_small = omega (arith, work_small S, few);
  }

  -- The work after the stores, by its cells.
  module _ {w' : List ℕ} {link : ℕ} (L : LinkToLast (list_of n side e g) (held side e g) link)
      (J : CopyJoined w w' (list_of n side e g) (copy_at n u k side) link (length (held side e g) + 1) r) where
    copy_cell : {x : ℕ} → Copy n (length w) x → (x ≡ copy_at n u k side → ⊥) → (d : ℕ) → d < 6 → (d ≡ 5 → last_link (held side e g) ≡ suc x → ⊥) → get_or w' (x + d) 0 ≡ get_or w (x + d) 0
    copy_cell {x} c f d hd last = J.other (x + d) (λ d' hd' q. f (copy_once c copy hd hd' q)) (λ q. let l = link_copy S he hg own L c d hd q in last l.0 l.1) (cells 1 (omega arith)) (cells 2 (omega arith)) where
      cells : (a : ℕ) → a < 3 → x + d ≡ list_of n side e g + a → ⊥
      cells a ha q =
          let kind : CellOfKind n (x + d) (12 - d) = row_spot c (12 - d) d hd (omega arith) in
          let y = spot_once (rw q at kind) (list_spot side e g hg a ha) in
          omega (arith, bit_below side)

    copy_row : {x : ℕ} → Copy n (length w) x → (x ≡ copy_at n u k side → ⊥) → stored_row w' x ≡ stored_row w x
    copy_row {x} c f = read_same w w' x (λ d hd. copy_cell c f d (omega arith) (omega arith))

    list_cell : (s : SideOfGap) (x h : ℕ) → h < n → (d : ℕ) → d < 3 → (list_of n s x h + d ≡ link → ⊥) → ((s ≡ side) × (x ≡ e) × (h ≡ g) → d ≡ 1 → ⊥)
        → ((s ≡ side) × (x ≡ e) × (h ≡ g) → d ≡ 2 → ⊥) → get_or w' (list_of n s x h + d) 0 ≡ get_or w (list_of n s x h + d) 0
    list_cell s x h hh d hd f0 f1 f2 = J.other (list_of n s x h + d) copies f0 (λ q. cells 1 (omega arith) q f1) (λ q. cells 2 (omega arith) q f2) where
      copies : (d' : ℕ) → d' < 6 → list_of n s x h + d ≡ copy_at n u k side + d' → ⊥
      copies d' hd' q =
          let y = spot_once (rw q at (list_spot s x h hh d hd)) (row_spot copy (12 - d') d' hd' (omega arith)) in
          omega (arith, bit_below s)

      cells : (a : ℕ) → a < 3 → list_of n s x h + d ≡ list_of n side e g + a → ((s ≡ side) × (x ≡ e) × (h ≡ g) → d ≡ a → ⊥) → ⊥
      cells a ha q f = let y = cell_once s side x e hh hg d a hd ha q in f (y.0, y.1, y.2) y.3

    -- Another list, in hand or not.
    hand_other : (s : SideOfGap) (list at : ℕ) (ps : List ℕ) → Hand n count pairs s w list at ps → Absent (copy_at n u k side) ps → (list ≡ list_of n side e g → ⊥) → Hand n count pairs s w' list at ps
    hand_other s list at ps H a f = hand_same (le_refl count) (λ q i. copy_cell (waiter_copy S (H.mine q i)) (new q i) 5 (omega arith) (λ z l. f (waiter_list S (H.mine q i) (last_waits S he hg own l))))
        (λ q i. copy_row (waiter_copy S (H.mine q i)) (new q i)) H where
          new : (q : ℕ) → In q ps → q ≡ copy_at n u k side → ⊥
          new q i z = not_in ps a (rw z at i)

    queue_other : (s : SideOfGap) (x h : ℕ) → x < count → h < n → ((s ≡ side) × (x ≡ e) × (h ≡ g) → ⊥) → Queue n count pairs s w' (list_of n s x h) (held s x h)
    queue_other s x h hx hh f =
        let O = Q.queue s x h hx hh in
        let cells : (d : ℕ) → d < 3 → get_or w' (list_of n s x h + d) 0 ≡ get_or w (list_of n s x h + d) 0 = λ d hd. list_cell s x h hh d hd (λ q. let y = link_list S he hg own L s x h hh d hd q in f (y.0, y.1, y.2)) (λ y z. f y) (λ y z. f y) in
        let z : get_or w' (list_of n s x h) 0 ≡ get_or w (list_of n s x h) 0 = rw add-zero at (cells 0 (omega arith)) in
        record {
          hand = rw z (hand_other s (list_of n s x h) _ (held s x h) O.hand (absent (held s x h) (none s x h hx hh)) (λ q. f (list_once s side x e hh hg q)));
          tail = cells 1 (omega arith) ∙ O.tail;
          counted = cells 2 (omega arith) ∙ O.counted;
        }

    -- The list itself.
    own_chain : LinkToLast (list_of n side e g) (held side e g) link → Chain w' (get_or w' (list_of n side e g) 0) (held side e g ++ copy_at n u k side ∷ [])
    own_chain (first z at) = rw z (next {ps = []} (rw at at J.links) (end J.ends))
    own_chain (after q l at) = rw head (chain_last (held side e g) q (copy_at n u k side) l own.hand.once same (rw at at J.links) J.ends own.hand.chain) where
      head : get_or w' (list_of n side e g) 0 ≡ get_or w (list_of n side e g) 0
      head =
          let away : list_of n side e g + 0 ≡ link → ⊥ = λ y.
          let kind = spot_once (rw (y ∙ at) at (list_spot side e g hg 0 (omega arith))) (row_spot (waiter_copy S (last_waits S he hg own l)) 7 5 (omega arith) refl) in
          omega (arith, bit_below side) in
          rw add-zero at (list_cell side e g hg 0 (omega arith) away (λ y z. omega arith) (λ y z. omega arith))

      same : (x : ℕ) → In x (held side e g) → (x ≡ q → ⊥) → get_or w' (x + 5) 0 ≡ get_or w (x + 5) 0
      same x i f = copy_cell (waiter_copy S (own.hand.mine x i)) (λ z. none side e g he hg (rw z at i)) 5 (omega arith) (λ y z. f (omega arith))

    own_mine : (p : ℕ) → In p (held side e g ++ copy_at n u k side ∷ []) → Waiter n count pairs side w' (list_of n side e g) p
    own_mine p i = ⊎_elim (λ a. waiter_same (le_refl count) (copy_row (waiter_copy S (own.hand.mine p a)) (λ z. none side e g he hg (rw z at a))) (own.hand.mine p a))
        (λ b. let z : p ≡ copy_at n u k side = in_one b in rw z (record { element = u; number = k; element_below = hu; number_below = hk; stands = refl; waits_in = rw J.row fits })) (in_append (held side e g) i)

    own_queue : Queue n count pairs side w' (list_of n side e g) (held side e g ++ copy_at n u k side ∷ [])
    own_queue = record {
      hand = record { chain = own_chain L; mine = own_mine; once = once_last (copy_at n u k side) (held side e g) own.hand.once (none side e g he hg) };
      tail = J.tail ∙ sym (last_link_lem (copy_at n u k side) (held side e g));
      counted = J.counts ∙ sym (length-append (held side e g) (copy_at n u k side ∷ []));
    }

    longer_queue : (s : SideOfGap) (x h : ℕ) → x < count → h < n → Queue n count pairs s w' (list_of n s x h) (longer held side e g (copy_at n u k side) s x h)
    longer_queue s x h hx hh = by (same_list s side x e h g) where
      by : (d : Dec ((s ≡ side) × (x ≡ e) × (h ≡ g))) → Queue n count pairs s w' (list_of n s x h) (choose d (held s x h ++ copy_at n u k side ∷ []) (held s x h))
      by (yes q) = rw (q.0, q.1, q.2) own_queue
      by (no f) = queue_other s x h hx hh f

    longer_six : SameStackLinks n w w'
    longer_six = record { same = λ i z. J.other i (copies i z) (λ q. link_six S he hg own L (rw q at z)) (λ q. cells i z 1 (omega arith) q) (λ q. cells i z 2 (omega arith) q) } where
      copies : (i : ℕ) → CellOfKind n i 6 → (d : ℕ) → d < 6 → i ≡ copy_at n u k side + d → ⊥
      copies i z d hd q = let y = spot_once (rw q at z) (row_spot copy (12 - d) d hd (omega arith)) in omega arith

      cells : (i : ℕ) → CellOfKind n i 6 → (a : ℕ) → a < 3 → i ≡ list_of n side e g + a → ⊥
      cells i z a ha q = let y = spot_once (rw q at z) (list_spot side e g hg a ha) in omega (arith, bit_below side)

    longer_beyond : SameBeyond n count w w'
    longer_beyond = record {
      long = J.long;
      beyond = λ i hi. J.other i (λ d hd q. omega (arith, copy_below S hu hk side d hd)) (λ q. omega (arith, link_below S he hg own L)) (λ q. omega (arith, list_below side he hg 1 (omega arith))) (λ q. omega (arith, list_below side he hg 2 (omega arith)));
    }

    longer_appended : Appended n count pairs w w' held side e g (copy_at n u k side) r
    longer_appended = record {
      held' = longer held side e g (copy_at n u k side);
      queues = record { queue = longer_queue };
      there = rw (choose_yes (same_list side side e e g g) (held side e g ++ copy_at n u k side ∷ []) (held side e g) (refl, refl, refl)) (in_right (held side e g) (here refl));
      more = λ s x h q i. more s x h q i (same_list s side x e h g);
      others = λ s x h f. choose_no (same_list s side x e h g) (held s x h ++ copy_at n u k side ∷ []) (held s x h) f;
      stored = J.row;
      rows = λ u' k' s hu' hk' f. copy_row (copy_is S hu' hk' s) f;
      six = longer_six;
      beyond = longer_beyond;
      hands = hand_other;
    } where
      more : (s : SideOfGap) (x h q : ℕ) → In q (held s x h) → (d : Dec ((s ≡ side) × (x ≡ e) × (h ≡ g))) → In q (choose d (held s x h ++ copy_at n u k side ∷ []) (held s x h))
      more s x h q i (yes z) = in_left (copy_at n u k side ∷ []) i
      more s x h q i (no f) = i

-- What `Appended` says, and that no other copy has come.
pub record AppendedOnly (n count pairs : ℕ) (w w' : List ℕ) (held : Waiting) (side : SideOfGap) (e g p : ℕ) (r : RelationTableRow) : Type 0 where
  pub appended : Appended n count pairs w w' held side e g p r
  pub only : (s : SideOfGap) (x h q : ℕ) → In q (appended.held' s x h) → In q (held s x h) ⊎ (q ≡ p)

longer_only : (held : Waiting) (side : SideOfGap) (e g p : ℕ) (s : SideOfGap) (x h q : ℕ) → In q (longer held side e g p s x h) → In q (held s x h) ⊎ (q ≡ p)
longer_only held side e g p s x h q = by (same_list s side x e h g) where
  by : (d : Dec ((s ≡ side) × (x ≡ e) × (h ≡ g))) → In q (choose d (held s x h ++ p ∷ []) (held s x h)) → In q (held s x h) ⊎ (q ≡ p)
  by (yes z) i = ⊎_elim (λ a. inl a) (λ b. inr (in_one b)) (in_append (held s x h) i)
  by (no f) i = inl i

module _ {n count pairs : ℕ} {w : List ℕ} {held : Waiting} (S : Sized n count pairs w) (Q : Queues n count pairs w held) (side : SideOfGap) (u k e g : ℕ) (r : RelationTableRow)
    (hu : u < count) (hk : k < pairs) (he : e < count) (hg : g < n) (small : RowFits r) (fits : list_at n r side ≡ list_of n side e g)
    (fresh : (x h : ℕ) → x < count → h < n → In (copy_at n u k side) (held side x h) → ⊥) where
  pub appends_only : AppendedOnly n count pairs w (waits w n (copy_at n u k side) r side) held side e g (copy_at n u k side) r
  unfolding longer_appended
  appends_only =
      let O = own S Q side r hu hk he hg fits fresh in
      let L = linked (list_of n side e g) (last_link (held side e g)) (held side e g) refl in
      let J = waits_joined w n (copy_at n u k side) r side (list_of n side e g) (last_link (held side e g)) (length (held side e g) + 1) fits (sym O.tail) (ap (λ (x : ℕ). x + 1) (sym O.counted))
      (apart S Q side r hu hk he hg fits fresh L) (within S Q side r hu hk he hg fits fresh L) small in
      record { appended = longer_appended S Q side r hu hk he hg fits fresh L J; only = longer_only held side e g (copy_at n u k side) }

  pub appends : Appended n count pairs w (waits w n (copy_at n u k side) r side) held side e g (copy_at n u k side) r
  appends = appends_only.appended
