-- Facts and the rows that they wake keep the table and the work right.
use Prim.Native.Nat.{ℕ, zero, suc, ◌+◌, ◌*◌, ◌-◌, ◌<◌, ◌≤◌}
use mathlib.Core.Path.{◌≡◌, refl, ◌∙◌}
use mathlib.Core.Bool.{Bool, true, false}
use mathlib.Core.List.{List}
use native.Mathlib.Nat.{add-zero}
use native.Mathlib.Omega.{arith}
use borrow.Author.Tests.{eqb-true, eq-eqb, ne_eqb}
use lib.ListN.{get_or, length}
use lib.Dec.{eqb}
use Rattle.egg.specs.declared.GroupElementId.{GroupElementId}
use Rattle.egg.specs.declared.GeneratorId.{GeneratorId}
use Rattle.egg.specs.Table.{pick, put_at}
use Rattle.build_reading.specs.Build.{is_new, set_step}
use Rattle.enumeration_rows.specs.declared.inner.RelationTableRow.{RelationTableRow}
use Rattle.enumeration_rows.specs.declared.inner.SideOfGap.{SideOfGap}
use Rattle.enumeration_rows.specs.declared.inner.SideOfGap.TheVariants.{Left, Right}
use Rattle.enumeration_rows.specs.Rows.{work_width, place_at, gen_of, stored_row, waits}
use Rattle.enumeration_fill.specs.Fill.{filled}
use Rattle.enumeration_wake.specs.Waking.{State, state, link, below_at, learns, gives, woken, wakes, wakes_all}
use Rattle.enumeration_facts.specs.Facts.{emptied, updated, settle_from}
use Rattle.enumeration_run_laws.specs.Invariant.{Step, RowOk, CellOfKind, in_place, Link, FactLink, WorkOk, StateOk}
use Rattle.egg.proofs.Cells.{put_length}
use Rattle.enumeration_run_laws.proofs.Spots.{place_link, row_spot}
use Rattle.enumeration_run_laws.proofs.Rowing.{step_back, filled_ok, met}
use Rattle.enumeration_run_laws.proofs.Storing.{work_put}
use Rattle.enumeration_run_laws.proofs.Waiting.{place_spot, waits_ok, waits_length}
use Rattle.enumeration_run_laws.proofs.Marking.{set_ok, set_length}
use Rattle.enumeration_run_laws.proofs.Knowing.{set_made}

pub link_ok : {n : ℕ} → n ≤ 8 → (e : GroupElementId) (g : GeneratorId) → e.0 < 65535 → g.0 < n → FactLink n (link n e g)
link_ok few e g he hg = FactLink.to e.0 g.0 hg (place_link few e g he hg)

module _ {n : ℕ} {m : ℕ → ℕ → ℕ} {word : ℕ → List ℕ} {count lt lw : ℕ} {S : ℕ → Type 0} (few : n ≤ 8) (limit : count ≤ 65535) where
  pub learns_ok : {s : State} → StateOk n m word count lt lw S s → (e : GroupElementId) (g : GeneratorId) (r : GroupElementId) → g.0 < n → Step n m word count e.0 g.0 r.0
      → StateOk n m word count lt lw S (learns n e g r s)
  unfolding learns
  learns_ok {s} I e g r h step = by (is_new s.table n e g) where
    by : (b : Bool) → StateOk n m word count lt lw S (state (set_step s.table n e g r) (pick b (put_at s.work (below_at (place_at n e g)) s.top) s.work) (pick b (link n e g) s.top))
    by true = record {
      table = set_ok I.table e g r h step;
      made = set_made I.made e g r h;
      work = work_put I.work s.top (place_spot e g h 6 (omega arith)) (omega arith) I.top;
      top = link_ok few e g (omega (arith, step.from_below)) h;
      table_length = set_length s.table n e g r ∙ I.table_length;
      work_length = put_length s.work _ s.top ∙ I.work_length;
    }
    by false = record {
      table = set_ok I.table e g r h step;
      made = set_made I.made e g r h;
      work = I.work;
      top = I.top;
      table_length = set_length s.table n e g r ∙ I.table_length;
      work_length = I.work_length;
    }

  pub gives_ok : {s : State} → StateOk n m word count lt lw S s → {r : RelationTableRow} → RowOk n m word count r → r.left ≡ r.right → StateOk n m word count lt lw S (gives n r s)
  gives_ok I {r} ok q =
      let step = met ok q in
      let h = ok.gens r.left in
      learns_ok (learns_ok I r.from (gen_of r.pair r.left) r.to h step) r.to (gen_of r.pair r.left) r.from h (step_back h step)

  pub wakes_ok : {s : State} → StateOk n m word count lt lw S s → (at : ℕ) (side : SideOfGap) → S at → StateOk n m word count lt lw S (wakes n at side s)
  unfolding wakes woken
  wakes_ok {s} I at side in-S = by (eqb r.left r.right) refl where
    r : RelationTableRow
    r = filled s.table n (stored_row s.work at)

    ok : RowOk n m word count r
    ok = filled_ok I.table (stored_row s.work at) (I.work.rows at in-S)

    by : (b : Bool) → eqb r.left r.right ≡ b → StateOk n m word count lt lw S (pick b (gives n r s) (state s.table (waits s.work n at r side) s.top))
    by true q = gives_ok I ok (eqb-true _ _ q)
    by false q = record {
      table = I.table;
      made = I.made;
      work = waits_ok I.work limit in-S ok side;
      top = I.top;
      table_length = I.table_length;
      work_length = waits_length s.work n at r side ∙ I.work_length;
    }

  pub wakes_all_ok : (k : ℕ) {s : State} → StateOk n m word count lt lw S s → (at : ℕ) (side : SideOfGap) → Link S at → StateOk n m word count lt lw S (wakes_all k n at side s)
  unfolding wakes_all
  wakes_all_ok zero I at side l = I
  wakes_all_ok (suc k) {s} I at side (Link.none z) = rw z I
  wakes_all_ok (suc k) {s} I at side (Link.to p in-S e) =
      let d : at ≡ 0 → ⊥ = omega arith in
      let q : at - 1 ≡ p = omega arith in
      simp (ne_eqb _ _ d, q) (wakes_all_ok k (wakes_ok I p side in-S) _ side (I.work.cells.holds (p + 5) 7 (row_spot (I.work.place p in-S) 7 5 (omega arith) refl)))

-- A place that a fact may have.
module _ {n place : ℕ} (e g : ℕ) (hg : g < n) (stands : place ≡ e * work_width n + 10 * g) where
  pub spot : (k : ℕ) → k < 7 → CellOfKind n (place + k) k
  spot k low = in_place e g hg low (omega arith)

  pub first_spot : CellOfKind n place 0
  first_spot = rw add-zero at (spot 0 (omega arith))

module _ {n : ℕ} {m : ℕ → ℕ → ℕ} {word : ℕ → List ℕ} {count : ℕ} {S : ℕ → Type 0} where
  emptied_ok : {w : List ℕ} → WorkOk n m word count S w → {place : ℕ} (e g : ℕ) → g < n → place ≡ e * work_width n + 10 * g → WorkOk n m word count S (emptied w place)
  unfolding emptied
  emptied_ok {w} W {place} e g hg q =
      let w0 = work_put W 0 (first_spot e g hg q) (omega arith) (Link.none refl) in
      let w1 = work_put w0 0 (spot e g hg q 1 (omega arith)) (omega arith) (Link.none refl) in
      let w2 = work_put w1 0 (spot e g hg q 2 (omega arith)) (omega arith) tt in
      let w3 = work_put w2 0 (spot e g hg q 3 (omega arith)) (omega arith) (Link.none refl) in
      let w4 = work_put w3 0 (spot e g hg q 4 (omega arith)) (omega arith) (Link.none refl) in
      let w5 = work_put w4 0 (spot e g hg q 5 (omega arith)) (omega arith) tt in
      work_put w5 0 (spot e g hg q 6 (omega arith)) (omega arith) (FactLink.none refl)

emptied_length : (w : List ℕ) (place : ℕ) → length (emptied w place) ≡ length w
unfolding emptied
emptied_length w place = simp put_length

module _ {n : ℕ} {m : ℕ → ℕ → ℕ} {word : ℕ → List ℕ} {count lt lw : ℕ} {S : ℕ → Type 0} (few : n ≤ 8) (limit : count ≤ 65535) where
  module _ {s : State} (I : StateOk n m word count lt lw S s) (place e g : ℕ) (hg : g < n) (q : place ≡ e * work_width n + 10 * g) where
    pub taken_ok : StateOk n m word count lt lw S (state s.table (emptied s.work place) s.top)
    taken_ok = record {
      table = I.table;
      made = I.made;
      work = emptied_ok I.work e g hg q;
      top = I.top;
      table_length = I.table_length;
      work_length = emptied_length s.work place ∙ I.work_length;
    }

    pub left_head : Link S (get_or s.work place 0)
    left_head = I.work.cells.holds place 0 (first_spot e g hg q)

    pub right_head : Link S (get_or s.work (place + 3) 0)
    right_head = I.work.cells.holds (place + 3) 3 (spot e g hg q 3 (omega arith))

    pub updated_ok : StateOk n m word count lt lw S (updated n place s)
    unfolding updated
    updated_ok = wakes_all_ok few limit _ (wakes_all_ok few limit _ taken_ok _ Left left_head) _ Right right_head

  -- The fact on the top is taken off.
  pub popped_ok : {s : State} → StateOk n m word count lt lw S s → (e g : ℕ) → g < n → s.top - 1 ≡ e * work_width n + 10 * g
      → StateOk n m word count lt lw S (state s.table s.work (get_or s.work (below_at (s.top - 1)) 0))
  popped_ok {s} I e g hg place = record {
    table = I.table;
    made = I.made;
    work = I.work;
    top = I.work.cells.holds (s.top - 1 + 6) 6 (spot e g hg place 6 (omega arith));
    table_length = I.table_length;
    work_length = I.work_length;
  }

  pub settle_ok : (k : ℕ) {s : State} → StateOk n m word count lt lw S s → StateOk n m word count lt lw S (settle_from k n s)
  unfolding settle_from
  settle_ok zero I = I
  settle_ok (suc k) {s} I = by I.top (λ J. settle_ok k J) where
    under : ℕ
    under = get_or s.work (below_at (s.top - 1)) 0

    by : FactLink n s.top → (StateOk n m word count lt lw S (updated n (s.top - 1) (state s.table s.work under))
        → StateOk n m word count lt lw S (settle_from k n (updated n (s.top - 1) (state s.table s.work under))))
        → StateOk n m word count lt lw S (pick (eqb s.top 0) s (settle_from k n (updated n (s.top - 1) (state s.table s.work under))))
    by (FactLink.none z) ih = simp (eq-eqb _ _ z) I
    by (FactLink.to e g hg q) ih =
        let d : s.top ≡ 0 → ⊥ = omega arith in
        let place : s.top - 1 ≡ e * work_width n + 10 * g = omega arith in
        simp (ne_eqb _ _ d) (ih (updated_ok (popped_ok I e g hg place) (s.top - 1) e g hg place))
