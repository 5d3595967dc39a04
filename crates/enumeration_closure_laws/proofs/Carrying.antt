-- What is said of rows and of waiting copies holds of a later state too, in which more is known.
use Prim.Native.Nat.{ℕ, suc, ◌<◌, ◌≤◌}
use mathlib.Core.Path.{◌≡◌, sym, ◌∙◌}
use mathlib.Core.Logic.{◌⊎◌, ⊎_elim}
use mathlib.Core.List.{List}
use native.Mathlib.Nat.{lt_of_lt_of_le}
use Rattle.enumeration_rows.specs.declared.inner.SideOfGap.{SideOfGap}
use Rattle.enumeration_rows.specs.declared.inner.SideOfGap.TheVariants.{Left, Right}
use Rattle.enumeration_rows.specs.Rows.{stored_row}
use Rattle.enumeration_run_laws.specs.Invariant.{StepKnown}
use Rattle.enumeration_loop_laws.specs.Rings.{turn, ring, first_of_pair, second_of_pair, Column}
use Rattle.enumeration_closure_laws.specs.Queues.{In, place_of, copy_at, Waiting}
use Rattle.enumeration_closure_laws.specs.Closure.{Rowed, Awaits, listed, in_hand, Open}
use Rattle.enumeration_closure_laws.proofs.Columns.{left_end, right_end}

-- In t' is known what is known in t.
pub record More (n : ℕ) (t t' : List ℕ) : Type 0 where
  pub more : (x h : ℕ) → h < n → StepKnown n t x h → StepKnown n t' x h

pub awaits_more : {n : ℕ} {t t' : List ℕ} {held held' : Waiting} {facts facts' : List ℕ} {hand hand' : SideOfGap → List ℕ} {side : SideOfGap} {p e g : ℕ} → Awaits n t held facts hand side p e g
    → (In p (held side e g) → In p (held' side e g)) → (StepKnown n t' e g → StepKnown n t e g ⊎ In (place_of n e g) facts') → ((q : ℕ) → In q facts → In q facts')
    → (In p (hand side) → In p (hand' side)) → Awaits n t' held' facts' hand' side p e g
awaits_more {n} {e = e} {g} (listed i c) lists new facts hands = listed (lists i) (λ known. ⊎_elim (λ k. facts (place_of n e g) (c k)) (λ j. j) (new known))
awaits_more (in_hand i) lists new facts hands = in_hand (hands i)

module _ {n : ℕ} (step : ℕ → ℕ → ℕ) {t t' : List ℕ} (M : More n t t') (u k : ℕ) (low : (j : ℕ) → turn (first_of_pair k) (second_of_pair k) j < n) where
  pub column_more : (j : ℕ) → Column n t step u k j → Column n t' step u k j
  column_more j c = M.more (ring step (first_of_pair k) (second_of_pair k) u j) (turn (first_of_pair k) (second_of_pair k) j) (low j) c

  pub rowed_more : {count count' : ℕ} {o w w' : List ℕ} {side : SideOfGap} → count ≤ count' → Rowed count step o t w n u k side
      → stored_row w' (copy_at n u k side) ≡ stored_row w (copy_at n u k side) → Rowed count' step o t' w' n u k side
  rowed_more h W same = record {
    left = W.left;
    right = W.right;
    is = same ∙ W.is;
    ordered = W.ordered;
    within = W.within;
    from_below = lt_of_lt_of_le W.from_below h;
    to_below = lt_of_lt_of_le W.to_below h;
    before = λ j a. column_more j (W.before j a);
    behind = λ j a b. column_more j (W.behind j a b);
  }

pub open_more : {n count : ℕ} {o : List ℕ} {step : ℕ → ℕ → ℕ} {t t' w w' : List ℕ} {held held' : Waiting} {facts facts' : List ℕ} {hand hand' : SideOfGap → List ℕ} {u k : ℕ}
    → ((j : ℕ) → turn (first_of_pair k) (second_of_pair k) j < n) → Rowed count step o t w n u k Left → Rowed count step o t w n u k Right
    → ((side : SideOfGap) → stored_row w' (copy_at n u k side) ≡ stored_row w (copy_at n u k side))
    → ((side : SideOfGap) (e g : ℕ) → e < count → g < n → Awaits n t held facts hand side (copy_at n u k side) e g → Awaits n t' held' facts' hand' side (copy_at n u k side) e g)
    → Open n step t w held facts hand u k → Open n step t' w' held' facts' hand' u k
open_more {step = step} {u = u} {k} low A B same f O =
    let a : O.l ≡ A.left = sym O.left_is ∙ left_end A in
    let b : O.r ≡ B.right = sym O.right_is ∙ right_end B in
    record {
      l = O.l;
      r = O.r;
      left_is = rw (same Left) O.left_is;
      right_is = rw (same Right) O.right_is;
      gap = O.gap;
      left_waits = f Left (ring step (first_of_pair k) (second_of_pair k) u O.l) (turn (first_of_pair k) (second_of_pair k) O.l) (rw a A.from_below) (low O.l) O.left_waits;
      right_waits = f Right (ring step (first_of_pair k) (second_of_pair k) u (suc O.r)) (turn (first_of_pair k) (second_of_pair k) O.r) (rw b B.to_below) (low O.r) O.right_waits;
    }
