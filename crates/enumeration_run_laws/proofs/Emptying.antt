-- The stack of facts is emptied within its bound: the length of the work.
use Prim.Native.Nat.{ℕ, zero, suc, ◌+◌, ◌*◌, ◌-◌, ◌<◌, ◌≤◌}
use mathlib.Core.Path.{◌≡◌, refl, sym, ◌∙◌}
use mathlib.Core.Bool.{Bool, true, false}
use mathlib.Core.List.{List, [], ◌∷◌}
use native.Mathlib.Omega.{arith}
use borrow.Author.Tests.{eqb-true, eq-eqb, ne_eqb}
use lib.ListN.{get_or, length}
use lib.Dec.{eqb}
use Rattle.egg.specs.Table.{pick, put_at}
use Rattle.enumeration_rows.specs.declared.inner.RelationTableRow.{RelationTableRow}
use Rattle.enumeration_rows.specs.declared.inner.SideOfGap.{SideOfGap}
use Rattle.enumeration_rows.specs.declared.inner.SideOfGap.TheVariants.{Left, Right}
use Rattle.enumeration_rows.specs.Rows.{work_width, gen_of, stored_row, write_row, link_at, appended, waits}
use Rattle.enumeration_fill.specs.Fill.{filled}
use Rattle.enumeration_wake.specs.Waking.{State, state, below_at, gives, woken, wakes, wakes_all}
use Rattle.enumeration_facts.specs.Facts.{emptied, updated, settle_from}
use Rattle.enumeration_run_laws.specs.Invariant.{RowOk, CellOfKind, Copy, Link, WorkOk, StateOk}
use Rattle.enumeration_run_laws.specs.Stack.{free, Absent, Stack, bottom, above, SameStackLinks, FactsWithin}
use Rattle.egg.proofs.Cells.{put_other}
use Rattle.enumeration_run_laws.proofs.Spots.{spot_once, row_spot}
use Rattle.enumeration_run_laws.proofs.Rowing.{filled_ok, met}
use Rattle.enumeration_run_laws.proofs.Storing.{write_other, work_write}
use Rattle.enumeration_run_laws.proofs.Waiting.{Threads, list_of}
use Rattle.enumeration_run_laws.proofs.Stacking.{stack_more, stack_put, learns_piled}
use Rattle.enumeration_run_laws.proofs.Settling.{learns_ok, wakes_ok, wakes_all_ok, taken_ok, left_head, right_head, updated_ok, popped_ok, spot, first_spot}

-- Stores in other cells than those that link the stack.
module _ {n : ℕ} where
  six_put : {i k : ℕ} (w : List ℕ) (v : ℕ) → CellOfKind n i k → (k ≡ 6 → ⊥) → SameStackLinks n w (put_at w i v)
  six_put {i} w v s d = record { same = λ j s'. put_other w i v (λ q. d (sym (spot_once (rw q at s') s))) }

  six_then : {w w' w'' : List ℕ} → SameStackLinks n w w' → SameStackLinks n w' w'' → SameStackLinks n w w''
  six_then a b = record { same = λ i s. b.same i s ∙ a.same i s }

  write_six : {len p : ℕ} → Copy n len p → (w : List ℕ) (r : RelationTableRow) → SameStackLinks n w (write_row w p r)
  write_six {p = p} c w r = record { same = λ i s. write_other w p r (λ d hd q. apart i s d hd q) } where
    apart : (i : ℕ) → CellOfKind n i 6 → (d : ℕ) → d < 5 → i ≡ p + d → ⊥
    apart i s d hd q = let e = spot_once (rw q at s) (row_spot c (12 - d) d (omega arith) (omega arith)) in omega arith

module _ {n : ℕ} {m : ℕ → ℕ → ℕ} {word : ℕ → List ℕ} {count : ℕ} {S : ℕ → Type 0} where
  link_six : {w : List ℕ} {list : ℕ} → WorkOk n m word count S w → Threads n S list → (tail : ℕ) → Link S tail → (w' : List ℕ) (v : ℕ) → SameStackLinks n w' (put_at w' (link_at list tail) v)
  link_six W T tail (Link.none z) w' v = rw z (six_put w' v T.head (omega (arith, T.low)))
  link_six {list = list} W T tail (Link.to p in-P e) w' v =
      let d : tail ≡ 0 → ⊥ = omega arith in
      let z : link_at list tail ≡ p + 5 = simp (ne_eqb _ _ d) (omega arith) in
      rw z (six_put w' v (row_spot (W.place p in-P) 7 5 (omega arith) refl) (omega arith))

  appended_six : {w : List ℕ} {list at : ℕ} → WorkOk n m word count S w → Threads n S list → S at → SameStackLinks n w (appended w list at)
  unfolding appended
  appended_six {w} {list} {at} W T in-S =
      let tail = T.from_tail _ (W.cells.holds (list + 1) T.k1 T.tail) in
      six_then (six_put w 0 (row_spot (W.place at in-S) 7 5 (omega arith) refl) (omega arith))
      (six_then (link_six W T (get_or w (list + 1) 0) tail _ (at + 1)) (six_then (six_put _ (at + 1) T.tail (omega (arith, T.low))) (six_put _ _ T.count (omega (arith, T.low)))))

  waits_six : {w : List ℕ} → WorkOk n m word count S w → count ≤ 65535 → {at : ℕ} → S at → {r : RelationTableRow} → RowOk n m word count r → (side : SideOfGap) → SameStackLinks n w (waits w n at r side)
  unfolding waits
  waits_six {w} W limit {at} in-S {r} ok side =
      six_then (write_six (W.place at in-S) w r) (appended_six (work_write W (λ q x. x) at (λ q x d. x) (W.place at in-S) ok limit) (list_of ok side) in-S)

module _ {n : ℕ} {m : ℕ → ℕ → ℕ} {word : ℕ → List ℕ} {count lt lw budget : ℕ} {S : ℕ → Type 0} (few : n ≤ 8) (limit : count ≤ 65535)
    (table_room : count * (2 * n + 4) ≤ lt) (work_room : count * work_width n ≤ lw) where
  gives_piled : {s : State} → StateOk n m word count lt lw S s → FactsWithin n count budget s → {r : RelationTableRow} → RowOk n m word count r → r.left ≡ r.right → FactsWithin n count budget (gives n r s)
  gives_piled I P {r} ok q =
      let step = met ok q in
      let h = ok.gens r.left in
      let one = learns_ok few limit I r.from (gen_of r.pair r.left) r.to h step in
      let first = learns_piled few limit table_room work_room I.table_length I.work_length P r.from (gen_of r.pair r.left) r.to ok.from_below h ok.to_below in
      learns_piled few limit table_room work_room one.table_length one.work_length first r.to (gen_of r.pair r.left) r.from ok.to_below h ok.from_below

  wakes_piled : {s : State} → StateOk n m word count lt lw S s → FactsWithin n count budget s → (at : ℕ) (side : SideOfGap) → S at → FactsWithin n count budget (wakes n at side s)
  unfolding wakes woken
  wakes_piled {s} I P at side in-S = by (eqb r.left r.right) refl where
    r : RelationTableRow
    r = filled s.table n (stored_row s.work at)

    ok : RowOk n m word count r
    ok = filled_ok I.table (stored_row s.work at) (I.work.rows at in-S)

    by : (b : Bool) → eqb r.left r.right ≡ b → FactsWithin n count budget (pick b (gives n r s) (state s.table (waits s.work n at r side) s.top))
    by true q = gives_piled I P ok (eqb-true _ _ q)
    by false q = record { facts = P.facts; stack = stack_more (λ e g h k. k) (waits_six I.work limit in-S ok side) P.stack; within = P.within }

  wakes_all_piled : (k : ℕ) {s : State} → StateOk n m word count lt lw S s → FactsWithin n count budget s → (at : ℕ) (side : SideOfGap) → Link S at → FactsWithin n count budget (wakes_all k n at side s)
  unfolding wakes_all
  wakes_all_piled zero I P at side l = P
  wakes_all_piled (suc k) I P at side (Link.none z) = rw z P
  wakes_all_piled (suc k) {s} I P at side (Link.to p in-S e) =
      let d : at ≡ 0 → ⊥ = omega arith in
      let q : at - 1 ≡ p = omega arith in
      simp (ne_eqb _ _ d, q)
      (wakes_all_piled k (wakes_ok few limit I p side in-S) (wakes_piled I P p side in-S) _ side
      (I.work.cells.holds (p + 5) 7 (row_spot (I.work.place p in-S) 7 5 (omega arith) refl)))

-- Both lists of a place emptied: the links of the other places stay.
pub emptied_stack : {n count : ℕ} {t w : List ℕ} {place : ℕ} (e g : ℕ) → g < n → place ≡ e * work_width n + 10 * g → {top : ℕ} {fs : List ℕ} → Absent place fs → Stack n count t w top fs
    → Stack n count t (emptied w place) top fs
unfolding emptied
emptied_stack {n} {count} {t} {w} {place} e g hg q out st =
    let a = six_put w 0 (first_spot e g hg q) (omega arith) in
    let b = six_then a (six_put _ 0 (spot e g hg q 1 (omega arith)) (omega arith)) in
    let c = six_then b (six_put _ 0 (spot e g hg q 2 (omega arith)) (omega arith)) in
    let d = six_then c (six_put _ 0 (spot e g hg q 3 (omega arith)) (omega arith)) in
    let f = six_then d (six_put _ 0 (spot e g hg q 4 (omega arith)) (omega arith)) in
    stack_put place 0 out (stack_more (λ x h hh k. k) (six_then f (six_put _ 0 (spot e g hg q 5 (omega arith)) (omega arith))) st)

module _ {n : ℕ} {m : ℕ → ℕ → ℕ} {word : ℕ → List ℕ} {count lt lw : ℕ} {S : ℕ → Type 0} (few : n ≤ 8) (limit : count ≤ 65535)
    (table_room : count * (2 * n + 4) ≤ lt) (work_room : count * work_width n ≤ lw) where
  updated_piled : {budget : ℕ} {s : State} → StateOk n m word count lt lw S s → (P : FactsWithin n count budget s) → (place e g : ℕ) → g < n → place ≡ e * work_width n + 10 * g
      → Absent place P.facts → FactsWithin n count budget (updated n place s)
  unfolding updated
  updated_piled {s = s} I P place e g hg q out =
      let taken = taken_ok few limit I place e g hg q in
      let left = left_head few limit I place e g hg q in
      let kept : FactsWithin n count _ (state s.table (emptied s.work place) s.top) = record { facts = P.facts; stack = emptied_stack e g hg q out P.stack; within = P.within } in
      let woken-left = wakes_all_piled few limit table_room work_room _ taken kept _ Left left in
      wakes_all_piled few limit table_room work_room _ (wakes_all_ok few limit _ taken _ Left left) woken-left _ Right (right_head few limit I place e g hg q)

  -- With a bound that is large enough no fact is left.
  pub settle_ends : (k : ℕ) {budget : ℕ} {s : State} → StateOk n m word count lt lw S s → FactsWithin n count budget s → budget ≤ k → (settle_from k n s).top ≡ 0
  unfolding settle_from
  settle_ends zero {budget} {s} I P h = by P.facts P.stack P.within where
    by : (fs : List ℕ) → Stack n count s.table s.work s.top fs → length fs + free n count s.table ≤ budget → s.top ≡ 0
    by [] (bottom z) b = z
    by (p ∷ fs) st b = absurd (omega arith)
  settle_ends (suc k) {budget} {s} I P h = by P.facts P.stack P.within (λ I P. settle_ends k {budget = budget - 1} I P (omega arith)) where
    under : State
    under = state s.table s.work (get_or s.work (below_at (s.top - 1)) 0)

    by : (fs : List ℕ) → Stack n count s.table s.work s.top fs → length fs + free n count s.table ≤ budget
        → (StateOk n m word count lt lw S (updated n (s.top - 1) under) → FactsWithin n count (budget - 1) (updated n (s.top - 1) under) → (settle_from k n (updated n (s.top - 1) under)).top ≡ 0)
        → (pick {A = State} (eqb s.top 0) s (settle_from k n (updated n (s.top - 1) under))).top ≡ 0
    by [] (bottom z) b ih = simp (eq-eqb _ _ z) z
    by (p ∷ fs) (above q f out st) b ih =
        let d : s.top ≡ 0 → ⊥ = omega arith in
        let at : s.top - 1 ≡ p = omega arith in
        let place : s.top - 1 ≡ f.element * work_width n + 10 * f.generator = at ∙ f.stands in
        let J = popped_ok few limit I f.element f.generator f.generator_below place in
        let left : FactsWithin n count (budget - 1) under = record { facts = fs; stack = rw at st; within = omega arith } in
        simp (ne_eqb _ _ d)
        (ih (updated_ok few limit J (s.top - 1) f.element f.generator f.generator_below place)
        (updated_piled J left (s.top - 1) f.element f.generator f.generator_below place (rw at out)))
