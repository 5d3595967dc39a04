-- A copy in hand is woken: its row gives its step, or waits again, and the machine stays right.
use Prim.Native.Nat.{ℕ, ◌*◌, ◌<◌}
use mathlib.Core.Path.{◌≡◌, refl}
use mathlib.Core.Bool.{Bool, true, false}
use mathlib.Core.List.{List}
use native.Mathlib.Nat.{lt_of_lt_of_le, lt_of_le_of_lt}
use native.Mathlib.Decide.{dec_lt}
use native.Mathlib.Omega.{arith}
use borrow.Author.Tests.{eqb-true, eqb-false}
use lib.ListN.{get_or, length}
use lib.Dec.{eqb}
use Rattle.egg.specs.Table.{pick}
use Rattle.enumeration_rows.specs.declared.inner.RelationTableRow.{RelationTableRow}
use Rattle.enumeration_rows.specs.declared.inner.SideOfGap.{SideOfGap}
use Rattle.enumeration_rows.specs.Rows.{waits}
use Rattle.enumeration_wake.specs.Waking.{State, state, gives, woken, wakes}
use Rattle.enumeration_run_laws.specs.Invariant.{StepKnown}
use Rattle.enumeration_run_laws.specs.Stack.{Absent}
use Rattle.enumeration_loop_laws.specs.Rings.{Column, row_at, Fills}
use Rattle.enumeration_closure_laws.specs.Queues.{In, list_of, copy_at, Hand, Waiting}
use Rattle.enumeration_closure_laws.specs.Closure.{Rowed, Machine}
use Rattle.enumeration_closure_laws.proofs.Places.{list_once}
use Rattle.enumeration_loop_laws.proofs.Filling.{fills}
use Rattle.enumeration_closure_laws.proofs.Ground.{Ground, waits_from, waits_by}
use Rattle.enumeration_closure_laws.proofs.Giving.{Drops, RowFilled, gives_learnt, gives_machine}
use Rattle.enumeration_closure_laws.proofs.Requeueing.{appended, by_low, unknown, waits_machine}

-- After the copy p has been woken: what was known is known, and the lists of known steps are as they were, in hand or not.
pub record Woke (n : ℕ) (o : List ℕ) (step : ℕ → ℕ → ℕ) (Live : ℕ → ℕ → Type 0) (count lt lw : ℕ) (held : Waiting) (hand : SideOfGap → List ℕ) (p : ℕ) (s s' : State) : Type 0 where
  pub held' : Waiting
  pub facts : List ℕ
  pub machine : Machine n o step Live count lt lw held' facts hand s'
  pub more : (x h : ℕ) → h < n → StepKnown n s.table x h → StepKnown n s'.table x h
  pub lists : (side : SideOfGap) (x h : ℕ) → h < n → StepKnown n s.table x h → held' side x h ≡ held side x h
  pub hands : (side : SideOfGap) (x h at : ℕ) (ps : List ℕ) → h < n → StepKnown n s.table x h → Absent p ps → Hand n count (length o) side s.work (list_of n side x h) at ps
      → Hand n count (length o) side s'.work (list_of n side x h) at ps

-- What a copy's row is filled to.
fill_row : {count : ℕ} {step : ℕ → ℕ → ℕ} {o t w : List ℕ} {n u k : ℕ} {side : SideOfGap} {row : RelationTableRow} (W : Rowed count step o t w n u k side)
    (F : Fills n count t step u k W.left W.right row) → RowFilled count step o t n u k F.left F.right
fill_row {step = step} {o} {t} {n = n} {u} {k} W F = record {
  ordered = F.ordered;
  within = lt_of_le_of_lt F.backward W.within;
  from_below = F.from_below;
  to_below = F.to_below;
  before = λ j h. early j h (dec_lt j W.left);
  behind = λ j h b. late j h b (dec_lt W.right j);
  left_open = F.left_end;
  right_open = F.right_end;
} where
  early : (j : ℕ) → j < F.left → Dec (j < W.left) → Column n t step u k j
  early j h (yes a) = W.before j a
  early j h (no a) = F.before j (omega arith) h

  late : (j : ℕ) → F.right < j → j < 2 * get_or o k 0 → Dec (W.right < j) → Column n t step u k j
  late j h b (yes a) = W.behind j a b
  late j h b (no a) = F.behind j h (omega arith)

module _ {n N : ℕ} {o : List ℕ} {step : ℕ → ℕ → ℕ} {count lt lw : ℕ} (G : Ground n N o step count lt lw)
    {Live : ℕ → ℕ → Type 0} {held : Waiting} {facts : List ℕ} {hand hand' : SideOfGap → List ℕ} {s : State} (M : Machine n o step Live count lt lw held facts hand s)
    {side : SideOfGap} {u k : ℕ} (D : Drops n u k side hand hand') (hu : u < count) (hk : k < length o)
    (free : (x h : ℕ) → x < count → h < n → In (copy_at n u k side) (held side x h) → ⊥) where
  module _ {l r : ℕ} (F : RowFilled count step o s.table n u k l r) where
    woke_met : l ≡ r → Woke n o step Live count lt lw held hand' (copy_at n u k side) s (gives n (row_at step u k l r) s)
    woke_met met = record {
      held' = held;
      facts = (gives_learnt G M D hu hk F met).facts';
      machine = gives_machine G M D hu hk F met;
      more = (gives_learnt G M D hu hk F met).more;
      lists = λ sd x h hh z. refl;
      hands = λ sd x h at ps hh z out H. (gives_learnt G M D hu hk F met).hands sd (list_of n sd x h) at ps H;
    }

    woke_apart : l < r → Woke n o step Live count lt lw held hand' (copy_at n u k side) s (state s.table (waits s.work n (copy_at n u k side) (row_at step u k l r) side) s.top)
    woke_apart apart =
        let X = appended G M D hu hk F apart free in
        record {
          held' = X.held';
          facts = facts;
          machine = waits_machine G M D hu hk F apart free;
          more = λ x h hh z. z;
          lists = λ sd x h hh z. X.others sd x h (λ q. elsewhere x h z q.1 q.2);
          hands = λ sd x h at ps hh z out H.
              X.hands sd (list_of n sd x h) at ps H out
              (λ q. let c = list_once sd side x (waits_from step u k l r side) hh (by_low G M D hu hk F apart free side) q in elsewhere x h z c.1 c.2);
        } where
          elsewhere : (x h : ℕ) → StepKnown n s.table x h → x ≡ waits_from step u k l r side → h ≡ waits_by k l r side → ⊥
          elsewhere x h z a b = unknown G M D hu hk F apart free side (rw (← a, ← b) z)

    woken_woke : Woke n o step Live count lt lw held hand' (copy_at n u k side) s (woken n (copy_at n u k side) side (row_at step u k l r) s)
    unfolding woken
    woken_woke = by (eqb l r) refl where
      by : (b : Bool) → eqb l r ≡ b → Woke n o step Live count lt lw held hand' (copy_at n u k side) s
          (pick b (gives n (row_at step u k l r) s) (state s.table (waits s.work n (copy_at n u k side) (row_at step u k l r) side) s.top))
      by true q = woke_met (eqb-true _ _ q)
      by false q = let d = eqb-false l r q in woke_apart (omega (arith, F.ordered))

  pub wakes_woke : Woke n o step Live count lt lw held hand' (copy_at n u k side) s (wakes n (copy_at n u k side) side s)
  unfolding wakes
  wakes_woke =
      let W = M.rows u k side hu hk in
      let F = fills G.few G.full G.looped M.told u k W.left W.right (lt_of_lt_of_le hu G.fits) hk W.ordered W.from_below W.to_below in
      rw (W.is, F.is) (woken_woke (fill_row W F))
