-- `RowsAdded` holds after `added_rows`: each copy of the new element waits in one of the element's own lists, and the lists of the others are as they were.
use Prim.Native.Nat.{ℕ, zero, suc, ◌+◌, ◌*◌, ◌-◌, ◌<◌, ◌≤◌}
use mathlib.Core.Path.{◌≡◌, refl, sym, ◌∙◌}
use mathlib.Core.Logic.{⊎_elim}
use mathlib.Core.List.{List, []}
use native.Mathlib.Decide.{ℕ_discrete, dec_lt}
use native.Mathlib.Omega.{arith}
use lib.ListN.{get_or, length}
use Rattle.theory.specs.Presentation.{pairs_below, order_of}
use Rattle.egg.specs.Pairs.{pair_code}
use Rattle.enumeration_rows.specs.declared.inner.RelationTableRow.{RelationTableRow}
use Rattle.enumeration_rows.specs.declared.inner.SideOfGap.{SideOfGap}
use Rattle.enumeration_rows.specs.declared.inner.SideOfGap.TheVariants.{Left, Right}
use Rattle.enumeration_rows.specs.Rows.{work_width, gen_of, stored_row, list_at, waits, new_row, added_row, add_rows_from, added_rows}
use Rattle.enumeration_run_laws.specs.Invariant.{RowOk}
use Rattle.enumeration_run_laws.specs.Stack.{SameStackLinks}
use Rattle.egg.proofs.Cells.{same_row, same_cell}
use Rattle.enumeration_run_laws.proofs.Rowing.{new_row_ok}
use Rattle.enumeration_closure_laws.specs.Queues.{In, list_of, copy_at, Queue, Waiting, Queues, Sized, SameBeyond, SameStoredRows, RowFits, RowsAdded}
use Rattle.enumeration_closure_laws.proofs.Lists.{in_none}
use Rattle.enumeration_closure_laws.proofs.Places.{bit, bit_below, bit_once, list_stands, copy_apart}
use Rattle.enumeration_closure_laws.proofs.Choosing.{choose, choose_yes}
use Rattle.enumeration_closure_laws.proofs.Chains.{queue_same, queue_none}
use Rattle.enumeration_closure_laws.proofs.Appending.{AppendedOnly, appends_only}

-- The column for which a new row's copy on a side waits.
abbrev column : SideOfGap → ℕ → ℕ
column Left order = 0
column Right order = order * 2 - 1

new_list : (n count pair order : ℕ) (s : SideOfGap) → list_at n (new_row (record { 0 = count }) pair order) s ≡ list_of n s count (gen_of pair (column s order)).0
new_list n count pair order Left = refl
new_list n count pair order Right = refl

-- So many copies of the new element, left and right in turn, have been put into their lists.
record Partly (n count : ℕ) (o w : List ℕ) (held : Waiting) (m : ℕ) (w₁ : List ℕ) : Type 0 where
  now : Waiting
  queues : Queues n (count + 1) (length o) w₁ now
  old : (s : SideOfGap) (x h : ℕ) → x < count → now s x h ≡ held s x h
  waiting : (j : ℕ) (s : SideOfGap) → 2 * j + bit s < m → In (copy_at n count j s) (now s count (gen_of (pair_code j) (column s (get_or o j 0))).0)
  stored : (j : ℕ) (s : SideOfGap) → 2 * j + bit s < m → stored_row w₁ (copy_at n count j s) ≡ new_row (record { 0 = count }) (pair_code j) (get_or o j 0)
  rows : SameStoredRows n count (length o) w w₁
  six : SameStackLinks n w w₁
  beyond : SameBeyond n (count + 1) w w₁
  fresh : (j : ℕ) (s : SideOfGap) → m ≤ 2 * j + bit s → j < length o → (x h : ℕ) → x < count + 1 → h < n → In (copy_at n count j s) (now s x h) → ⊥

sized : {n count pairs : ℕ} {w w₁ : List ℕ} → Sized n count pairs w → SameBeyond n count w w₁ → Sized n count pairs w₁
sized S B = record { few = S.few; limit = S.limit; paired = S.paired; room = rw B.long S.room }

module _ (n count : ℕ) (o w : List ℕ) (held : Waiting) (S : Sized n (count + 1) (length o) w) (full : length o ≡ pairs_below n)
    (orders : (k : ℕ) → k < length o → (1 ≤ get_or o k 0) × (get_or o k 0 < 32768)) where
  module _ (k : ℕ) (hk : k < length o) where
    row : RelationTableRow
    row = new_row (record { 0 = count }) (pair_code k) (get_or o k 0)

    row_ok : RowOk n (order_of o) (λ x. []) (suc count) row
    unfolding row
    row_ok = new_row_ok o S.few full orders {word = λ x. []} {count = suc count} (record { 0 = count }) k hk (omega arith)

    row_small : RowFits row
    unfolding row
    row_small = record {
      pair_small = omega (arith, row_ok.small);
      left_small = omega arith;
      right_small = omega (arith, row_ok.wide);
      from_small = omega (arith, S.limit);
      to_small = omega (arith, S.limit);
    }

    -- One copy more.
    one_more : {m : ℕ} {w₁ : List ℕ} (s : SideOfGap) → m ≡ 2 * k + bit s → Partly n count o w held m w₁ → Partly n count o w held (suc m) (waits w₁ n (copy_at n count k s) row s)
    unfolding row
    one_more {m} {w₁} side at P = record {
      now = A.appended.held';
      queues = A.appended.queues;
      old = λ s x h hx. A.appended.others s x h (λ z. omega (arith, z.1)) ∙ P.old s x h hx;
      waiting = λ j s h. waiting j s h (ℕ_discrete (2 * j + bit s) m);
      stored = λ j s h. stored j s h (ℕ_discrete (2 * j + bit s) m);
      rows = record { same = λ u j s hu hj. A.appended.rows u j s (omega arith) hj (λ q. other u j s hu hj q) ∙ P.rows.same u j s hu hj };
      six = record { same = λ i z. A.appended.six.same i z ∙ P.six.same i z };
      beyond = record { long = A.appended.beyond.long ∙ P.beyond.long; beyond = λ i z. A.appended.beyond.beyond i z ∙ P.beyond.beyond i z };
      fresh = λ j s h hj x y hx hy i. ⊎_elim (λ a. P.fresh j s (omega arith) hj x y hx hy a) (λ q. apart j s hj (omega arith) q) (A.only s x y (copy_at n count j s) i);
    } where
      g : ℕ
      g = (gen_of (pair_code k) (column side (get_or o k 0))).0

      A : AppendedOnly n (count + 1) (length o) w₁ (waits w₁ n (copy_at n count k side) row side) P.now side count g (copy_at n count k side) row
      A = appends_only (sized S P.beyond) P.queues side count k count g row (omega arith) hk (omega arith) (row_ok.gens (column side (get_or o k 0))) row_small
          (new_list n count (pair_code k) (get_or o k 0) side) (P.fresh k side (omega arith) hk)

      other : (u j : ℕ) (s : SideOfGap) → u < count → j < length o → copy_at n u j s ≡ copy_at n count k side → ⊥
      other u j s hu hj q = omega (arith, (copy_apart n j k S.paired hj hk u count s side q).0)

      apart : (j : ℕ) (s : SideOfGap) → j < length o → (2 * j + bit s ≡ m → ⊥) → copy_at n count j s ≡ copy_at n count k side → ⊥
      apart j s hj f q =
          let y = copy_apart n j k S.paired hj hk count count s side q in
          f (rw (y.1, y.2) (sym at))

      -- The copy that has this number.
      which : (j : ℕ) (s : SideOfGap) → 2 * j + bit s ≡ m → (j ≡ k) × (s ≡ side)
      which j s q =
          let e : j * 2 + bit s ≡ k * 2 + bit side = omega arith in
          (same_row j k (bit_below s) (bit_below side) e, bit_once s side (same_cell j k (bit_below s) (bit_below side) e))

      waiting : (j : ℕ) (s : SideOfGap) → 2 * j + bit s < suc m → Dec (2 * j + bit s ≡ m) → In (copy_at n count j s) (A.appended.held' s count (gen_of (pair_code j) (column s (get_or o j 0))).0)
      waiting j s h (yes q) = let y = which j s q in rw (y.0, y.1) A.appended.there
      waiting j s h (no f) = A.appended.more s count _ (copy_at n count j s) (P.waiting j s (omega arith))

      stored : (j : ℕ) (s : SideOfGap) → 2 * j + bit s < suc m → Dec (2 * j + bit s ≡ m)
          → stored_row (waits w₁ n (copy_at n count k side) row side) (copy_at n count j s) ≡ new_row (record { 0 = count }) (pair_code j) (get_or o j 0)
      stored j s h (yes q) = let y = which j s q in rw (y.0, y.1) A.appended.stored
      stored j s h (no f) =
          let hj : j < length o = omega (arith, bit_below s, bit_below side) in
          A.appended.rows count j s (omega arith) hj (apart j s hj f) ∙ P.stored j s (omega arith)

  -- All rows from the pair at place k on.
  all_more : (f : ℕ) (k : ℕ) {w₁ : List ℕ} → f + k ≡ length o → Partly n count o w held (2 * k) w₁ → Partly n count o w held (2 * length o) (add_rows_from f w₁ o n (record { 0 = count }) k)
  unfolding add_rows_from added_row row
  all_more zero k q P = let e : k ≡ length o = omega arith in rw e at P
  all_more (suc f) k {w₁} q P =
      let hk : k < length o = omega arith in
      let a = one_more k hk Left (omega arith) P in
      let b = one_more k hk Right (omega arith) a in
      let e : suc (suc (2 * k)) ≡ 2 * (k + 1) = omega arith in
      all_more f (k + 1) (omega arith) (rw e at b)

  -- Before the first: the new element's cells are zero.
  module _ (Q : Queues n count (length o) w held) (blank : (i : ℕ) → count * work_width n ≤ i → get_or w i 0 ≡ 0) where
    start : Waiting
    start s x h = choose (dec_lt x count) (held s x h) []

    start_queue : (s : SideOfGap) (x h : ℕ) → x < count + 1 → h < n → Queue n (count + 1) (length o) s w (list_of n s x h) (start s x h)
    unfolding start
    start_queue s x h hx hh = by (dec_lt x count) where
      by : (d : Dec (x < count)) → Queue n (count + 1) (length o) s w (list_of n s x h) (choose d (held s x h) [])
      by (yes l) = queue_same (omega arith) (λ q i. refl) (λ q i. refl) (λ d hd. refl) (Q.queue s x h l hh)
      by (no f) = let e : x ≡ count = omega arith in queue_none (λ d hd. blank (list_of n s x h + d) (rw (e, list_stands n s count h d) (omega arith)))

    start_fresh : (j : ℕ) (s : SideOfGap) → j < length o → (x h : ℕ) → x < count + 1 → h < n → In (copy_at n count j s) (start s x h) → ⊥
    unfolding start
    start_fresh j s hj x h hx hh = by (dec_lt x count) where
      by : (d : Dec (x < count)) → In (copy_at n count j s) (choose d (held s x h) []) → ⊥
      by (yes l) i =
          let W = (Q.queue s x h l hh).hand.mine (copy_at n count j s) i in
          omega (arith, W.element_below, (copy_apart n j W.number S.paired hj W.number_below count W.element s s W.stands).0)
      by (no f) i = in_none i

    started : Partly n count o w held 0 w
    unfolding start
    started = record {
      now = start;
      queues = record { queue = start_queue };
      old = λ s x h hx. choose_yes (dec_lt x count) (held s x h) [] hx;
      waiting = λ j s h. absurd (omega arith);
      stored = λ j s h. absurd (omega arith);
      rows = record { same = λ u k s hu hk. refl };
      six = record { same = λ i z. refl };
      beyond = record { long = refl; beyond = λ i z. refl };
      fresh = λ j s h hj. start_fresh j s hj;
    }

pub begins : {n count : ℕ} {o w : List ℕ} {held : Waiting} → Sized n (count + 1) (length o) w → length o ≡ pairs_below n → ((k : ℕ) → k < length o → (1 ≤ get_or o k 0) × (get_or o k 0 < 32768))
    → Queues n count (length o) w held → ((i : ℕ) → count * work_width n ≤ i → get_or w i 0 ≡ 0) → RowsAdded n count (length o) o w (added_rows w o n (record { 0 = count })) held
begins {n} {count} {o} {w} {held} S full orders Q blank =
    let e : length o + 0 ≡ length o = omega arith in
    let P = all_more n count o w held S full orders (length o) 0 e (started n count o w held S full orders Q blank) in
    record {
      held' = P.now;
      queues = P.queues;
      old = P.old;
      left = λ k hk. P.waiting k Left (omega arith);
      right = λ k hk. P.waiting k Right (omega arith);
      stored = λ k s hk. P.stored k s (omega (arith, bit_below s));
      rows = P.rows;
      six = P.six;
      beyond = P.beyond;
    }
