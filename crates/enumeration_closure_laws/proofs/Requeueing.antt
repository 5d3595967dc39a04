-- A filled row whose ends are apart waits again: its copy goes to the list of a step that is not known, and all other rows are as before.
use Prim.Native.Nat.{ℕ, suc, ◌<◌}
use mathlib.Core.Path.{◌≡◌, sym, ◌∙◌}
use mathlib.Core.Logic.{◌⊎◌, inl, inr, ⊎_elim}
use mathlib.Core.List.{List}
use native.Mathlib.Nat.{le_refl}
use native.Mathlib.Decide.{ℕ_discrete, dec_lt}
use native.Mathlib.Omega.{arith}
use lib.ListN.{length}
use Rattle.enumeration_rows.specs.declared.inner.SideOfGap.{SideOfGap}
use Rattle.enumeration_rows.specs.declared.inner.SideOfGap.TheVariants.{Left, Right}
use Rattle.enumeration_rows.specs.Rows.{stored_row, waits}
use Rattle.enumeration_wake.specs.Waking.{State, state}
use Rattle.enumeration_run_laws.specs.Invariant.{StepKnown}
use Rattle.enumeration_run_laws.proofs.Stacking.{stack_more}
use Rattle.enumeration_loop_laws.specs.Rings.{turn, ring, first_of_pair, second_of_pair, StepsAgree, row_at}
use Rattle.enumeration_closure_laws.specs.Queues.{In, copy_at, Waiting, Appended}
use Rattle.enumeration_closure_laws.specs.Closure.{Rowed, Awaits, listed, Open, Whole, Machine}
use Rattle.enumeration_closure_laws.proofs.Appending.{appends}
use Rattle.enumeration_closure_laws.proofs.Places.{copy_apart}
use Rattle.enumeration_closure_laws.proofs.Ground.{Ground, paired, sized, small_row, letter_below, waits_from, waits_by, list_at_lem, left_right}
use Rattle.enumeration_closure_laws.proofs.Columns.{left_end, right_end, column_back}
use Rattle.enumeration_closure_laws.proofs.Carrying.{awaits_more, rowed_more, open_more}
use Rattle.enumeration_closure_laws.proofs.Giving.{Drops, RowFilled, still}

-- The woken copy's own row: its end on that side moves, and does not pass the other copy's.
module _ {n N : ℕ} {o : List ℕ} {step : ℕ → ℕ → ℕ} {count lt lw : ℕ} (G : Ground n N o step count lt lw) {t w : List ℕ} (T : StepsAgree n count step t)
    {held : Waiting} {facts : List ℕ} {hand : SideOfGap → List ℕ} {u k l r : ℕ} (hk : k < length o)
    (A : Rowed count step o t w n u k Left) (B : Rowed count step o t w n u k Right) (F : RowFilled count step o t n u k l r) (apart : l < r) (O : Open n step t w held facts hand u k) where
  left_gap : l < O.r
  left_gap = by (dec_lt B.right r) where
    by : Dec (B.right < r) → l < O.r
    by (yes h) = absurd (F.right_open apart (column_back o G.few G.full T u k hk r (B.behind r h F.within)))
    by (no d) = let q : O.r ≡ B.right = sym O.right_is ∙ right_end B in omega arith

  right_gap : O.l < r
  right_gap = by (dec_lt l A.left) where
    by : Dec (l < A.left) → O.l < r
    by (yes h) = absurd (F.left_open apart (A.before l h))
    by (no d) = let q : O.l ≡ A.left = sym O.left_is ∙ left_end A in omega arith

  own_open : {w' : List ℕ} {held' : Waiting} {hand' : SideOfGap → List ℕ} (side : SideOfGap) → stored_row w' (copy_at n u k side) ≡ row_at step u k l r
      → ((s : SideOfGap) → (s ≡ side → ⊥) → stored_row w' (copy_at n u k s) ≡ stored_row w (copy_at n u k s))
      → Awaits n t held' facts hand' side (copy_at n u k side) (waits_from step u k l r side) (waits_by k l r side)
      → ((s : SideOfGap) → (s ≡ side → ⊥) → (e g : ℕ) → Awaits n t held facts hand s (copy_at n u k s) e g → Awaits n t held' facts hand' s (copy_at n u k s) e g)
      → Open n step t w' held' facts hand' u k
  own_open Left stored others mine keeps = record {
    l = l;
    r = O.r;
    left_is = rw stored;
    right_is = rw (others Right (λ q. left_right (sym q))) O.right_is;
    gap = left_gap;
    left_waits = mine;
    right_waits = keeps Right (λ q. left_right (sym q)) (ring step (first_of_pair k) (second_of_pair k) u (suc O.r)) (turn (first_of_pair k) (second_of_pair k) O.r) O.right_waits;
  }
  own_open Right stored others mine keeps = record {
    l = O.l;
    r = r;
    left_is = rw (others Left left_right) O.left_is;
    right_is = rw stored;
    gap = right_gap;
    left_waits = keeps Left left_right (ring step (first_of_pair k) (second_of_pair k) u O.l) (turn (first_of_pair k) (second_of_pair k) O.l) O.left_waits;
    right_waits = mine;
  }

module _ {n N : ℕ} {o : List ℕ} {step : ℕ → ℕ → ℕ} {count lt lw : ℕ} (G : Ground n N o step count lt lw)
    {Live : ℕ → ℕ → Type 0} {held : Waiting} {facts : List ℕ} {hand hand' : SideOfGap → List ℕ} {s : State} (M : Machine n o step Live count lt lw held facts hand s)
    {side : SideOfGap} {u k : ℕ} (D : Drops n u k side hand hand') (hu : u < count) (hk : k < length o)
    {l r : ℕ} (F : RowFilled count step o s.table n u k l r) (apart : l < r)
    (free : (x h : ℕ) → x < count → h < n → In (copy_at n u k side) (held side x h) → ⊥) where
  from_low : (sd : SideOfGap) → waits_from step u k l r sd < count
  from_low Left = F.from_below
  from_low Right = F.to_below

  pub by_low : (sd : SideOfGap) → waits_by k l r sd < n
  by_low Left = letter_below G k hk l
  by_low Right = letter_below G k hk r

  pub unknown : (sd : SideOfGap) → StepKnown n s.table (waits_from step u k l r sd) (waits_by k l r sd) → ⊥
  unknown Left = F.left_open apart
  unknown Right = F.right_open apart

  abbrev after : List ℕ
  after = waits s.work n (copy_at n u k side) (row_at step u k l r) side

  pub appended : Appended n count (length o) s.work after held side (waits_from step u k l r side) (waits_by k l r side) (copy_at n u k side) (row_at step u k l r)
  appended =
      appends (sized G s.work M.work_length) M.queues side u k (waits_from step u k l r side) (waits_by k l r side) (row_at step u k l r) hu hk (from_low side) (by_low side)
      (small_row G u k l r hk F.ordered F.within F.from_below F.to_below) (list_at_lem n step u k l r side) free

  own_rowed : Rowed count step o s.table after n u k side
  own_rowed = record {
    left = l;
    right = r;
    is = appended.stored;
    ordered = F.ordered;
    within = F.within;
    from_below = F.from_below;
    to_below = F.to_below;
    before = F.before;
    behind = F.behind;
  }

  all_rowed : (x i : ℕ) (sd : SideOfGap) → x < count → i < length o → Rowed count step o s.table after n x i sd
  all_rowed x i sd hx hi = by (ℕ_discrete (copy_at n x i sd) (copy_at n u k side)) where
    by : Dec (copy_at n x i sd ≡ copy_at n u k side) → Rowed count step o s.table after n x i sd
    by (yes q) = let c = copy_apart n i k (paired G) hi hk x u sd side q in rw (c.0, c.1, c.2) own_rowed
    by (no d) = rowed_more step (record { more = λ y h hh z. z }) x i (letter_below G i hi) (le_refl count) (M.rows x i sd hx hi) (appended.rows x i sd hx hi d)

  -- The row's other copy stays where it is.
  other_hand : (sd : SideOfGap) → (sd ≡ side → ⊥) → (q : ℕ) → In q (hand sd) → In q (hand' sd)
  other_hand sd d q m = ⊎_elim (λ z. absurd (d z.0)) (λ j. j) (D.splits sd q m)

  own_live : Whole n step o s.table u k ⊎ Open n step s.table s.work held facts hand u k → Whole n step o s.table u k ⊎ Open n step s.table after appended.held' facts hand' u k
  own_live (inl whole) = inl whole
  own_live (inr O) =
      inr (own_open G M.told hk (M.rows u k Left hu hk) (M.rows u k Right hu hk) F apart O side appended.stored
      (λ sd d. appended.rows u k sd hu hk (λ q. d (copy_apart n k k (paired G) hk hk u u sd side q).2))
      (listed appended.there (λ z. absurd (unknown side z)))
      (λ sd d e g a. awaits_more a (appended.more sd e g (copy_at n u k sd)) (λ z. inl z) (λ q z. z) (other_hand sd d (copy_at n u k sd))))

  other_live : (x i : ℕ) → x < count → i < length o → (x ≡ u → i ≡ k → ⊥) → Live x i
      → Whole n step o s.table x i ⊎ Open n step s.table after appended.held' facts hand' x i
  other_live x i hx hi d v =
      ⊎_elim (λ whole. inl whole)
      (λ O. inr (open_more (letter_below G i hi) (M.rows x i Left hx hi) (M.rows x i Right hx hi)
      (λ sd. appended.rows x i sd hx hi (λ q. let c = copy_apart n i k (paired G) hi hk x u sd side q in d c.0 c.1))
      (λ sd e g he hg a. awaits_more a (appended.more sd e g (copy_at n x i sd)) (λ z. inl z) (λ q z. z) (still G M D hu hk x i hi d sd)) O))
      (M.live x i hx hi v)

  pub waits_machine : Machine n o step Live count lt lw appended.held' facts hand' (state s.table after s.top)
  waits_machine = record {
    told = M.told;
    stack = stack_more (λ e g h z. z) appended.six M.stack;
    queues = appended.queues;
    rows = all_rowed;
    live = λ x i hx hi v. by x i hx hi v (ℕ_discrete x u) (ℕ_discrete i k);
    blank = λ i h. appended.beyond.beyond i h ∙ M.blank i h;
    table_length = M.table_length;
    work_length = appended.beyond.long ∙ M.work_length;
  } where
    by : (x i : ℕ) → x < count → i < length o → Live x i → Dec (x ≡ u) → Dec (i ≡ k)
        → Whole n step o s.table x i ⊎ Open n step s.table after appended.held' facts hand' x i
    by x i hx hi v (yes a) (yes b) = rw (a, b) (own_live (M.live u k hu hk (rw (a, b) at v)))
    by x i hx hi v (yes a) (no d) = other_live x i hx hi (λ a b. d b) v
    by x i hx hi v (no d) b = other_live x i hx hi (λ a b. d a) v
