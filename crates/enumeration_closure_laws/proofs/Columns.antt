-- `column_known`: where no fact is left and all columns of a live row but one are known, that one is known too.
use Prim.Native.Nat.{ℕ, suc, ◌*◌, ◌<◌, ◌≤◌}
use mathlib.Core.Path.{◌≡◌, refl, sym, ◌∙◌}
use mathlib.Core.Logic.{◌⊎◌, inl, inr}
use mathlib.Core.List.{List, []}
use native.Mathlib.Decide.{ℕ_discrete}
use native.Mathlib.Omega.{arith}
use lib.ListN.{get_or, length}
use Rattle.theory.specs.Presentation.{pairs_below}
use Rattle.enumeration_rows.specs.declared.inner.SideOfGap.{SideOfGap}
use Rattle.enumeration_rows.specs.declared.inner.SideOfGap.TheVariants.{Left, Right}
use Rattle.enumeration_rows.specs.Rows.{stored_row}
use Rattle.enumeration_run_laws.specs.Invariant.{StepKnown}
use Rattle.enumeration_loop_laws.specs.Rings.{turn, ring, first_of_pair, second_of_pair, StepsAgree, Column}
use Rattle.enumeration_closure_laws.specs.Queues.{copy_at, Waiting}
use Rattle.enumeration_closure_laws.specs.Closure.{Rowed, Awaits, listed, in_hand, Open, Whole, none_in_hand, Closed}
use Rattle.enumeration_loop_laws.proofs.Letters.{turn_below}
use Rattle.enumeration_closure_laws.proofs.Lists.{in_empty, in_none}

-- What waits where nothing is in hand, waits for a step that is not known.
not_known : {n : ℕ} {t : List ℕ} {held : Waiting} {hand : SideOfGap → List ℕ} {side : SideOfGap} {p e g : ℕ} → Awaits n t held [] hand side p e g → hand side ≡ [] → StepKnown n t e g → ⊥
not_known (listed i c) z known = in_none (c known)
not_known (in_hand i) z known = in_empty i z

-- The ends of a copy's row.
module _ {count : ℕ} {step : ℕ → ℕ → ℕ} {o t w : List ℕ} {n u k : ℕ} {side : SideOfGap} (W : Rowed count step o t w n u k side) where
  pub left_end : (stored_row w (copy_at n u k side)).left ≡ W.left
  left_end = rw W.is

  pub right_end : (stored_row w (copy_at n u k side)).right ≡ W.right
  right_end = rw W.is

module _ {n count : ℕ} (o : List ℕ) {step : ℕ → ℕ → ℕ} {t : List ℕ} (few : n ≤ 8) (full : length o ≡ pairs_below n) (T : StepsAgree n count step t)
    (u k : ℕ) (hk : k < length o) where
  -- The step of a known column is known from its other end too.
  pub column_back : (j : ℕ) → Column n t step u k j → StepKnown n t (ring step (first_of_pair k) (second_of_pair k) u (suc j)) (turn (first_of_pair k) (second_of_pair k) j)
  column_back j c = T.both (ring step (first_of_pair k) (second_of_pair k) u j) (turn (first_of_pair k) (second_of_pair k) j) (turn_below o few full hk j) c

  open_known : {w : List ℕ} {held : Waiting} → Rowed count step o t w n u k Left → Rowed count step o t w n u k Right → Open n step t w held [] none_in_hand u k → (c : ℕ)
      → ((j : ℕ) → j < 2 * get_or o k 0 → (j ≡ c → ⊥) → Column n t step u k j) → ⊥
  open_known {w} {held} A B O c others = by (ℕ_discrete O.l c) where
    l_is : O.l ≡ A.left
    l_is = sym O.left_is ∙ left_end A

    r_is : O.r ≡ B.right
    r_is = sym O.right_is ∙ right_end B

    by : Dec (O.l ≡ c) → ⊥
    by (yes q) = not_known O.right_waits refl (column_back O.r (others O.r (omega (arith, r_is, B.within)) (omega (arith, O.gap))))
    by (no d) = not_known O.left_waits refl (others O.l (omega (arith, l_is, A.ordered, A.within)) d)

pub column_known : {n : ℕ} {o : List ℕ} {step : ℕ → ℕ → ℕ} {count lt lw : ℕ} {Live : ℕ → ℕ → Type 0} {t w : List ℕ} → n ≤ 8
    → length o ≡ pairs_below n → Closed n o step Live count lt lw t w → (u k c : ℕ) → u < count → k < length o → Live u k → c < 2 * get_or o k 0
    → ((j : ℕ) → j < 2 * get_or o k 0 → (j ≡ c → ⊥) → Column n t step u k j) → Column n t step u k c
column_known {n} {o = o} {step} {count} {t = t} {w} few full C u k c hu hk live hc others = by (C.machine.live u k hu hk live) where
  by : Whole n step o t u k ⊎ Open n step t w C.held [] none_in_hand u k → Column n t step u k c
  by (inl whole) = whole c hc
  by (inr O) = absurd (open_known o few full C.machine.told u k hk (C.machine.rows u k Left hu hk) (C.machine.rows u k Right hu hk) O c others)
