-- What a step that is set both ways keeps of the table, the facts that are taken from the stack keep.
use Prim.Native.Nat.{ℕ, zero, suc, ◌+◌, ◌*◌, ◌-◌, ◌<◌, ◌≤◌}
use mathlib.Core.Path.{◌≡◌, refl}
use mathlib.Core.Bool.{Bool, true, false}
use mathlib.Core.List.{List}
use native.Mathlib.Omega.{arith}
use borrow.Author.Tests.{eq-eqb, ne_eqb}
use lib.ListN.{get_or, length}
use lib.Dec.{eqb}
use Rattle.egg.specs.declared.GroupElementId.{GroupElementId}
use Rattle.egg.specs.declared.GeneratorId.{GeneratorId}
use Rattle.egg.specs.Table.{pick}
use Rattle.build_reading.specs.Build.{set_step}
use Rattle.enumeration_rows.specs.declared.inner.RelationTableRow.{RelationTableRow}
use Rattle.enumeration_rows.specs.declared.inner.SideOfGap.{SideOfGap}
use Rattle.enumeration_rows.specs.declared.inner.SideOfGap.TheVariants.{Left, Right}
use Rattle.enumeration_rows.specs.Rows.{work_width, gen_of, stored_row, waits}
use Rattle.enumeration_fill.specs.Fill.{filled}
use Rattle.enumeration_wake.specs.Waking.{State, state, below_at, learns, gives, woken, wakes, wakes_all}
use Rattle.enumeration_facts.specs.Facts.{updated, settle_from}
use Rattle.enumeration_run_laws.specs.Invariant.{RowOk, Link, FactLink, StateOk}
use Rattle.enumeration_run_laws.proofs.Spots.{row_spot}
use Rattle.enumeration_run_laws.proofs.Rowing.{filled_ok}
use Rattle.enumeration_run_laws.proofs.Settling.{wakes_ok, wakes_all_ok, taken_ok, left_head, right_head, updated_ok, popped_ok}

-- P holds after a step between elements below the count has been set both ways, if it held before.
pub record Both (n count lt : ℕ) (P : List ℕ → Type 0) : Type 0 where
  pub both : (t : List ℕ) (e : GroupElementId) (g : GeneratorId) (r : GroupElementId) → length t ≡ lt → e.0 < count → g.0 < n → r.0 < count → P t
      → P (set_step (set_step t n e g r) n r g e)

module _ {n : ℕ} {m : ℕ → ℕ → ℕ} {word : ℕ → List ℕ} {count lt lw : ℕ} {S : ℕ → Type 0} (few : n ≤ 8) (limit : count ≤ 65535)
    (P : List ℕ → Type 0) (K : Both n count lt P) where
  gives_keeps : {s : State} → StateOk n m word count lt lw S s → {r : RelationTableRow} → RowOk n m word count r → P s.table → P (gives n r s).table
  unfolding learns
  gives_keeps {s} I {r} ok p = K.both s.table r.from (gen_of r.pair r.left) r.to I.table_length ok.from_below (ok.gens r.left) ok.to_below p

  wakes_keeps : {s : State} → StateOk n m word count lt lw S s → (at : ℕ) (side : SideOfGap) → S at → P s.table → P (wakes n at side s).table
  unfolding wakes woken
  wakes_keeps {s} I at side in-S p = by (eqb r.left r.right) where
    r : RelationTableRow
    r = filled s.table n (stored_row s.work at)

    by : (b : Bool) → P (pick {A = State} b (gives n r s) (state s.table (waits s.work n at r side) s.top)).table
    by true = gives_keeps I (filled_ok I.table (stored_row s.work at) (I.work.rows at in-S)) p
    by false = p

  wakes_all_keeps : (k : ℕ) {s : State} → StateOk n m word count lt lw S s → (at : ℕ) (side : SideOfGap) → Link S at → P s.table → P (wakes_all k n at side s).table
  unfolding wakes_all
  wakes_all_keeps zero I at side l p = p
  wakes_all_keeps (suc k) {s} I at side (Link.none z) p = rw z p
  wakes_all_keeps (suc k) {s} I at side (Link.to q in-S e) p =
      let d : at ≡ 0 → ⊥ = omega arith in
      let i : at - 1 ≡ q = omega arith in
      simp (ne_eqb _ _ d, i)
      (wakes_all_keeps k (wakes_ok few limit I q side in-S) _ side (I.work.cells.holds (q + 5) 7 (row_spot (I.work.place q in-S) 7 5 (omega arith) refl))
      (wakes_keeps I q side in-S p))

  updated_keeps : {s : State} → StateOk n m word count lt lw S s → (place e g : ℕ) → g < n → place ≡ e * work_width n + 10 * g → P s.table → P (updated n place s).table
  unfolding updated
  updated_keeps {s} I place e g hg q p =
      let taken = taken_ok few limit I place e g hg q in
      let left = left_head few limit I place e g hg q in
      wakes_all_keeps _ (wakes_all_ok few limit _ taken _ Left left) _ Right (right_head few limit I place e g hg q) (wakes_all_keeps _ taken _ Left left p)

  pub settle_keeps : (k : ℕ) {s : State} → StateOk n m word count lt lw S s → P s.table → P (settle_from k n s).table
  unfolding settle_from
  settle_keeps zero I p = p
  settle_keeps (suc k) {s} I p = by I.top (λ J q. settle_keeps k J q) where
    under : State
    under = state s.table s.work (get_or s.work (below_at (s.top - 1)) 0)

    by : FactLink n s.top
        → (StateOk n m word count lt lw S (updated n (s.top - 1) under) → P (updated n (s.top - 1) under).table → P (settle_from k n (updated n (s.top - 1) under)).table)
        → P (pick {A = State} (eqb s.top 0) s (settle_from k n (updated n (s.top - 1) under))).table
    by (FactLink.none z) ih = simp (eq-eqb _ _ z) p
    by (FactLink.to e g hg q) ih =
        let d : s.top ≡ 0 → ⊥ = omega arith in
        let place : s.top - 1 ≡ e * work_width n + 10 * g = omega arith in
        let J = popped_ok few limit I e g hg place in
        simp (ne_eqb _ _ d) (ih (updated_ok few limit J (s.top - 1) e g hg place) (updated_keeps J (s.top - 1) e g hg place p))
