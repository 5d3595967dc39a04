-- Facts, and the rows that they wake, go alike in longer stretches.
use Prim.Native.Nat.{ℕ, zero, suc, ◌+◌, ◌*◌, ◌-◌, ◌<◌, ◌≤◌}
use mathlib.Core.Path.{◌≡◌, refl}
use mathlib.Core.Bool.{Bool, true, false}
use mathlib.Core.List.{List}
use native.Mathlib.Omega.{arith}
use borrow.Author.Tests.{eqb-true, eq-eqb, ne_eqb}
use lib.ListN.{get_or}
use lib.Dec.{eqb}
use Rattle.egg.specs.declared.GroupElementId.{GroupElementId}
use Rattle.egg.specs.declared.GeneratorId.{GeneratorId}
use Rattle.egg.specs.Table.{pick, put_at, start_of}
use Rattle.build_reading.specs.Build.{is_new, set_step}
use Rattle.enumeration_rows.specs.declared.inner.RelationTableRow.{RelationTableRow}
use Rattle.enumeration_rows.specs.declared.inner.SideOfGap.{SideOfGap}
use Rattle.enumeration_rows.specs.declared.inner.SideOfGap.TheVariants.{Left, Right}
use Rattle.enumeration_rows.specs.Rows.{work_width, place_at, gen_of, stored_row, waits}
use Rattle.enumeration_fill.specs.Fill.{filled}
use Rattle.enumeration_wake.specs.Waking.{State, state, link, below_at, learns, gives, woken, wakes, wakes_all}
use Rattle.enumeration_facts.specs.Facts.{emptied, updated, settle_from}
use Rattle.enumeration_run_laws.specs.Invariant.{RowOk, Link, FactLink, StateOk}
use Rattle.egg.proofs.Cells.{inside}
use Rattle.enumeration_run_laws.proofs.Spots.{row_spot}
use Rattle.enumeration_run_laws.proofs.Rowing.{filled_ok, met}
use Rattle.enumeration_run_laws.proofs.Stacking.{place_within}
use Rattle.enumeration_run_laws.proofs.Settling.{learns_ok, wakes_ok, wakes_all_ok, taken_ok, left_head, right_head, updated_ok, popped_ok}
use Rattle.enumeration_run_laws.specs.Longer.{longer, Long, longer_state}
use Rattle.enumeration_run_laws.proofs.LongerStores.{longer_get, longer_put, long_put, long_zero}
use Rattle.enumeration_run_laws.proofs.LongerRows.{read_longer, filled_longer, waits_longer}

-- A step is stored inside the table.
pub set_long : {a n count len : ℕ} {t t' : List ℕ} → Long a len t t' → count * (2 * n + 4) ≤ len → (e : GroupElementId) (g : GeneratorId) (r : GroupElementId) → e.0 < count → g.0 < n → r.0 < count
    → Long a len (set_step t n e g r) (set_step t' n e g r)
unfolding set_step start_of
set_long {n = n} L room e g r he hg hr =
    let one = long_put L (start_of n e.0 + g.0) (r.0 + 1) (omega (arith, inside {k = g.0} {w = 2 * n + 4} he (omega arith))) in
    long_put one (start_of n r.0 + n + g.0) (e.0 + 1) (omega (arith, inside {k = n + g.0} {w = 2 * n + 4} hr (omega arith)))

emptied_longer : (b : ℕ) (w : List ℕ) (place : ℕ) → emptied (longer b w) place ≡ longer b (emptied w place)
unfolding emptied
emptied_longer b w place =
    let z0 = long_zero {k = b} {l = w} (record { same = refl; wide = refl }) place in
    let z3 = long_zero (long_zero (long_zero z0 (place + 1)) (place + 2)) (place + 3) in
    (long_zero (long_zero (long_zero z3 (place + 4)) (place + 5)) (place + 6)).same

module _ {n : ℕ} {m : ℕ → ℕ → ℕ} {word : ℕ → List ℕ} {count lt lw : ℕ} {S : ℕ → Type 0} (few : n ≤ 8) (limit : count ≤ 65535)
    (table_room : count * (2 * n + 4) ≤ lt) (work_room : count * work_width n ≤ lw) (a b : ℕ) where
  learns_longer : {s : State} → StateOk n m word count lt lw S s → (e : GroupElementId) (g : GeneratorId) (r : GroupElementId) → e.0 < count → g.0 < n → r.0 < count
      → learns n e g r (longer_state a b s) ≡ longer_state a b (learns n e g r s)
  unfolding learns
  learns_longer {s} I e g r he hg hr =
      let stepped = (set_long {a = a} {len = lt} {t = s.table} (record { same = refl; wide = I.table_length }) table_room e g r he hg hr).same in
      let stacked = longer_put b s.work (below_at (place_at n e g)) s.top (rw I.work_length (place_within few limit table_room work_room e g he hg)) in
      simp (longer_get, stepped, stacked) (by (is_new s.table n e g))
    where
      by : (c : Bool) → state (longer a (set_step s.table n e g r)) (pick c (longer b (put_at s.work (below_at (place_at n e g)) s.top)) (longer b s.work)) (pick c (link n e g) s.top)
          ≡ state (longer a (set_step s.table n e g r)) (longer b (pick c (put_at s.work (below_at (place_at n e g)) s.top) s.work)) (pick c (link n e g) s.top)
      by true = refl
      by false = refl

  gives_longer : {s : State} → StateOk n m word count lt lw S s → {r : RelationTableRow} → RowOk n m word count r → r.left ≡ r.right → gives n r (longer_state a b s) ≡ longer_state a b (gives n r s)
  gives_longer I {r} ok q =
      let h = ok.gens r.left in
      let one = learns_ok few limit I r.from (gen_of r.pair r.left) r.to h (met ok q) in
      rw (learns_longer I r.from (gen_of r.pair r.left) r.to ok.from_below h ok.to_below)
      (learns_longer one r.to (gen_of r.pair r.left) r.from ok.to_below h ok.from_below)

  wakes_longer : {s : State} → StateOk n m word count lt lw S s → (at : ℕ) (side : SideOfGap) → S at → wakes n at side (longer_state a b s) ≡ longer_state a b (wakes n at side s)
  unfolding wakes woken
  wakes_longer {s} I at side in-S = simp (read_longer, filled_longer) (by (eqb r.left r.right) refl) where
    r : RelationTableRow
    r = filled s.table n (stored_row s.work at)

    ok : RowOk n m word count r
    ok = filled_ok I.table (stored_row s.work at) (I.work.rows at in-S)

    by : (c : Bool) → eqb r.left r.right ≡ c
        → pick c (gives n r (longer_state a b s)) (state (longer a s.table) (waits (longer b s.work) n at r side) s.top)
        ≡ longer_state a b (pick c (gives n r s) (state s.table (waits s.work n at r side) s.top))
    by true q = gives_longer I ok (eqb-true _ _ q)
    by false q = rw (waits_longer I.work (λ q x. x) at (λ q x d. x) (I.work.place at in-S) ok limit (rw I.work_length work_room) b side)

  wakes_all_longer : (k : ℕ) {s : State} → StateOk n m word count lt lw S s → (at : ℕ) (side : SideOfGap) → Link S at → wakes_all k n at side (longer_state a b s) ≡ longer_state a b (wakes_all k n at side s)
  unfolding wakes_all
  wakes_all_longer zero I at side l = refl
  wakes_all_longer (suc k) I at side (Link.none z) = rw z
  wakes_all_longer (suc k) {s} I at side (Link.to p in-S e) =
      let d : at ≡ 0 → ⊥ = omega arith in
      let q : at - 1 ≡ p = omega arith in
      simp (ne_eqb _ _ d, q, longer_get, wakes_longer I p side in-S)
      (wakes_all_longer k (wakes_ok few limit I p side in-S) _ side (I.work.cells.holds (p + 5) 7 (row_spot (I.work.place p in-S) 7 5 (omega arith) refl)))

  updated_longer : {s : State} → StateOk n m word count lt lw S s → (place e g : ℕ) → g < n → place ≡ e * work_width n + 10 * g → updated n place (longer_state a b s) ≡ longer_state a b (updated n place s)
  unfolding updated
  updated_longer {s} I place e g hg q =
      let taken = taken_ok few limit I place e g hg q in
      let left = left_head few limit I place e g hg q in
      let one = wakes_all_ok few limit (get_or s.work (place + 2) 0) taken _ Left left in
      simp (longer_get, emptied_longer, wakes_all_longer (get_or s.work (place + 2) 0) taken _ Left left)
      (wakes_all_longer _ one _ Right (right_head few limit I place e g hg q))

  pub settle_longer : (k : ℕ) {s : State} → StateOk n m word count lt lw S s → settle_from k n (longer_state a b s) ≡ longer_state a b (settle_from k n s)
  unfolding settle_from
  settle_longer zero I = refl
  settle_longer (suc k) {s} I = by I.top (λ J. settle_longer k J) where
    next : State
    next = updated n (s.top - 1) (state s.table s.work (get_or s.work (below_at (s.top - 1)) 0))

    by : FactLink n s.top → (StateOk n m word count lt lw S next → settle_from k n (longer_state a b next) ≡ longer_state a b (settle_from k n next))
        → pick (eqb s.top 0) (longer_state a b s) (settle_from k n (updated n (s.top - 1) (state (longer a s.table) (longer b s.work) (get_or (longer b s.work) (below_at (s.top - 1)) 0))))
        ≡ longer_state a b (pick (eqb s.top 0) s (settle_from k n next))
    by (FactLink.none z) ih = simp (eq-eqb _ _ z)
    by (FactLink.to e g hg q) ih =
        let d : s.top ≡ 0 → ⊥ = omega arith in
        let place : s.top - 1 ≡ e * work_width n + 10 * g = omega arith in
        let popped = popped_ok few limit I e g hg place in
        simp (ne_eqb _ _ d, longer_get, updated_longer popped (s.top - 1) e g hg place) (ih (updated_ok few limit popped (s.top - 1) e g hg place))
