-- A row is filled along its loop: its ends go over known columns, and stop where they meet or before a step that is not known.
use Prim.Native.Nat.{ℕ, zero, suc, ◌+◌, ◌-◌, ◌<◌, ◌≤◌}
use mathlib.Core.Path.{◌≡◌, refl, sym, ap, ◌∙◌}
use mathlib.Core.Logic.{⊎_elim}
use mathlib.Core.Bool.{Bool, true, false}
use mathlib.Core.List.{List}
use native.Mathlib.Nat.{le_refl, eq-or-lt_of_le}
use native.Mathlib.Omega.{arith}
use borrow.Author.Tests.{eqb-true, eqb-false}
use lib.ListN.{get_or, length}
use lib.Dec.{eqb}
use Rattle.theory.specs.Presentation.{pairs_below}
use Rattle.egg.specs.Pairs.{pair_code}
use Rattle.egg.specs.Table.{pick, start_of}
use Rattle.enumeration_rows.specs.declared.inner.RelationTableRow.{RelationTableRow}
use Rattle.enumeration_rows.specs.Rows.{gen_of, row_of}
use Rattle.enumeration_fill.specs.Fill.{right_cell, left_cell, back_from, forward_from, filled}
use Rattle.enumeration_run_laws.specs.Invariant.{StepKnown}
use Rattle.enumeration_loop_laws.specs.Rings.{turn, ring, first_of_pair, second_of_pair, Looped, StepsAgree, Column, row_at, Fills}
use Rattle.enumeration_loop_laws.proofs.Letters.{letters_below_lem, turn_below, gen_turn, ring_back}

-- What a row comes to when its right end goes back.
record Back (n count : ℕ) (t : List ℕ) (step : ℕ → ℕ → ℕ) (u k l r : ℕ) (row : RelationTableRow) : Type 0 where
  right : ℕ
  is : row ≡ row_at step u k l right
  ordered : l ≤ right
  backward : right ≤ r
  behind : (j : ℕ) → right < j → j ≤ r → Column n t step u k j
  right_end : l < right → StepKnown n t (ring step (first_of_pair k) (second_of_pair k) u (suc right)) (turn (first_of_pair k) (second_of_pair k) right) → ⊥
  to_below : ring step (first_of_pair k) (second_of_pair k) u (suc right) < count

-- And when its left end goes forward.
record Forth (n count : ℕ) (t : List ℕ) (step : ℕ → ℕ → ℕ) (u k l r : ℕ) (row : RelationTableRow) : Type 0 where
  left : ℕ
  is : row ≡ row_at step u k left r
  forth : l ≤ left
  ordered : left ≤ r
  before : (j : ℕ) → l ≤ j → j < left → Column n t step u k j
  left_end : left < r → Column n t step u k left → ⊥
  from_below : ring step (first_of_pair k) (second_of_pair k) u left < count

module _ {n count N : ℕ} {o : List ℕ} {step : ℕ → ℕ → ℕ} {t : List ℕ} (few : n ≤ 8) (full : length o ≡ pairs_below n) (L : Looped n N o step)
    (T : StepsAgree n count step t) (u k : ℕ) (hu : u < N) (hk : k < length o) where
  -- The elements along the row, and its letters.
  abbrev y : ℕ → ℕ
  y = ring step (first_of_pair k) (second_of_pair k) u

  abbrev z : ℕ → ℕ
  z = turn (first_of_pair k) (second_of_pair k)

  z_below : (j : ℕ) → z j < n
  z_below = turn_below o few full hk

  -- The step back over a column.
  back_over : (j : ℕ) → step (y (suc j)) (z j) ≡ y j
  back_over j = let b = letters_below_lem o few full hk in ring_back L (omega arith) b.1 hu j

  -- The cells that a row's two ends read.
  right_cell_lem : (l r : ℕ) → right_cell t n (row_at step u k l r) ≡ get_or t (start_of n (y (suc r)) + z r) 0
  right_cell_lem l r =
      let q : start_of n (y (suc r)) + n + (gen_of (pair_code k) r).0 ≡ start_of n (y (suc r)) + (n + z r) = omega (arith, gen_turn k r) in
      ap (λ (i : ℕ). get_or t i 0) q ∙ T.back (y (suc r)) (z r) (z_below r)

  left_cell_lem : (l r : ℕ) → left_cell t n (row_at step u k l r) ≡ get_or t (start_of n (y l) + z l) 0
  left_cell_lem l r = ap (λ (x : ℕ). get_or t (start_of n (y l) + x) 0) (gen_turn k l)

  -- The right end goes over a column: what it reads leads back, and the column is known.
  module _ (r : ℕ) (h : StepKnown n t (y (suc r)) (z r)) where
    over_column : Column n t step u k r
    over_column = rw (back_over r) at (T.both (y (suc r)) (z r) (z_below r) h)

    over_below : y r < count
    over_below = rw (back_over r) at (T.to_below (y (suc r)) (z r) (z_below r) h)

    over_cell : (l : ℕ) → right_cell t n (row_at step u k l r) - 1 ≡ y r
    over_cell l = omega (arith, right_cell_lem l r, T.succ (y (suc r)) (z r) (z_below r) h, back_over r)

  -- The two loops, by the width of the gap.
  back_from_lem : (f l r : ℕ) → r ≡ l + f → y (suc r) < count → Back n count t step u k l r (back_from f t n (row_at step u k l r))
  unfolding back_from
  back_from_lem zero l r w below = record {
    right = r;
    is = refl;
    ordered = omega arith;
    backward = le_refl r;
    behind = λ j a b. absurd (omega arith);
    right_end = λ a. absurd (omega arith);
    to_below = below;
  }
  back_from_lem (suc f) l zero w below = absurd (omega arith)
  back_from_lem (suc f) l (suc r) w below = by (eqb (right_cell t n (row_at step u k l (suc r))) 0) refl (back_from_lem f l r (omega arith)) where
    by : (s : Bool) → eqb (right_cell t n (row_at step u k l (suc r))) 0 ≡ s → (y (suc r) < count → Back n count t step u k l r (back_from f t n (row_at step u k l r)))
        → Back n count t step u k l (suc r)
        (pick s (row_at step u k l (suc r)) (back_from f t n (row_of (pair_code k) l (suc r - 1) (record { 0 = y l }) (record { 0 = right_cell t n (row_at step u k l (suc r)) - 1 }))))
    by true q ih = record {
      right = suc r;
      is = refl;
      ordered = omega arith;
      backward = le_refl (suc r);
      behind = λ j a b. absurd (omega arith);
      right_end = λ a b. b (sym (right_cell_lem l (suc r)) ∙ eqb-true _ _ q);
      to_below = below;
    }
    by false q ih =
        let h : StepKnown n t (y (suc (suc r))) (z (suc r)) = λ c. eqb-false _ _ q (right_cell_lem l (suc r) ∙ c) in
        let p : suc r - 1 ≡ r = omega arith in
        let b = ih (over_below (suc r) h) in
        rw (p, over_cell (suc r) h l) (record {
          right = b.right;
          is = b.is;
          ordered = b.ordered;
          backward = omega (arith, b.backward);
          behind = λ j c d. ⊎_elim (λ e. rw e (over_column (suc r) h)) (λ e. b.behind j c (omega arith)) (eq-or-lt_of_le d);
          right_end = b.right_end;
          to_below = b.to_below;
        })

  -- The left end goes over a column.
  module _ (l : ℕ) (h : Column n t step u k l) where
    on_below : y (suc l) < count
    on_below = T.to_below (y l) (z l) (z_below l) h

    on_cell : (r : ℕ) → left_cell t n (row_at step u k l r) - 1 ≡ y (suc l)
    on_cell r = omega (arith, left_cell_lem l r, T.succ (y l) (z l) (z_below l) h)

  forward_from_lem : (f l r : ℕ) → r ≡ l + f → y l < count → Forth n count t step u k l r (forward_from f t n (row_at step u k l r))
  unfolding forward_from
  forward_from_lem zero l r w below = record {
    left = l;
    is = refl;
    forth = le_refl l;
    ordered = omega arith;
    before = λ j a b. absurd (omega arith);
    left_end = λ a. absurd (omega arith);
    from_below = below;
  }
  forward_from_lem (suc f) l r w below = by (eqb (left_cell t n (row_at step u k l r)) 0) refl (forward_from_lem f (suc l) r (omega arith)) where
    by : (s : Bool) → eqb (left_cell t n (row_at step u k l r)) 0 ≡ s
        → (y (suc l) < count → Forth n count t step u k (suc l) r (forward_from f t n (row_at step u k (suc l) r)))
        → Forth n count t step u k l r
        (pick s (row_at step u k l r) (forward_from f t n (row_of (pair_code k) (l + 1) r (record { 0 = left_cell t n (row_at step u k l r) - 1 }) (record { 0 = y (suc r) }))))
    by true q ih = record {
      left = l;
      is = refl;
      forth = le_refl l;
      ordered = omega arith;
      before = λ j a b. absurd (omega arith);
      left_end = λ a b. b (sym (left_cell_lem l r) ∙ eqb-true _ _ q);
      from_below = below;
    }
    by false q ih =
        let h : Column n t step u k l = λ c. eqb-false _ _ q (left_cell_lem l r ∙ c) in
        let p : l + 1 ≡ suc l = omega arith in
        let b = ih (on_below l h) in
        rw (p, on_cell l h r) (record {
          left = b.left;
          is = b.is;
          forth = omega (arith, b.forth);
          ordered = b.ordered;
          before = λ j c d. ⊎_elim (λ e. rw (← e) h) (λ e. b.before j e d) (eq-or-lt_of_le c);
          left_end = b.left_end;
          from_below = b.from_below;
        })

  filled_to : (l r : ℕ) → l ≤ r → y l < count → y (suc r) < count → Fills n count t step u k l r (filled t n (row_at step u k l r))
  unfolding filled
  filled_to l r h from to =
      let b = back_from_lem (r - l) l r (omega arith) to in
      let f = forward_from_lem (b.right - l) l b.right (omega (arith, b.ordered)) from in
      rw b.is (record {
        left = f.left;
        right = b.right;
        is = f.is;
        forth = f.forth;
        ordered = f.ordered;
        backward = b.backward;
        before = f.before;
        behind = b.behind;
        left_end = f.left_end;
        right_end = λ a. b.right_end (omega (arith, f.forth));
        from_below = f.from_below;
        to_below = b.to_below;
      })

-- `filled` of a row at columns of its loop.
pub fills : {n count N : ℕ} {o : List ℕ} {step : ℕ → ℕ → ℕ} {t : List ℕ} → n ≤ 8 → length o ≡ pairs_below n → Looped n N o step → StepsAgree n count step t
    → (u k l r : ℕ) → u < N → k < length o → l ≤ r → ring step (first_of_pair k) (second_of_pair k) u l < count → ring step (first_of_pair k) (second_of_pair k) u (suc r) < count
    → Fills n count t step u k l r (filled t n (row_at step u k l r))
fills few full L T u k l r hu hk = filled_to few full L T u k hu hk l r
