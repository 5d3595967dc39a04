-- A row whose ends have met gives its step: it is whole then, and all other rows are as before.
use Prim.Native.Nat.{ℕ, suc, ◌*◌, ◌<◌, ◌≤◌}
use mathlib.Core.Path.{◌≡◌, ap, ◌∙◌}
use mathlib.Core.Logic.{◌⊎◌, inl, inr, ⊎_elim}
use mathlib.Core.List.{List}
use native.Mathlib.Nat.{le_refl}
use native.Mathlib.Decide.{ℕ_discrete, dec_lt}
use native.Mathlib.Omega.{arith}
use lib.ListN.{get_or, length}
use Rattle.egg.specs.declared.GroupElementId.{GroupElementId}
use Rattle.egg.specs.declared.GeneratorId.{GeneratorId}
use Rattle.egg.specs.Pairs.{pair_code}
use Rattle.enumeration_rows.specs.declared.inner.SideOfGap.{SideOfGap}
use Rattle.enumeration_rows.specs.declared.inner.SideOfGap.TheVariants.{Left, Right}
use Rattle.enumeration_rows.specs.Rows.{gen_of}
use Rattle.enumeration_wake.specs.Waking.{State, learns, gives}
use Rattle.enumeration_run_laws.specs.Invariant.{StepKnown}
use Rattle.enumeration_loop_laws.specs.Rings.{turn, ring, first_of_pair, second_of_pair, StepsAgree, Column, row_at}
use Rattle.enumeration_closure_laws.specs.Queues.{In, copy_at, Waiting}
use Rattle.enumeration_closure_laws.specs.Closure.{Open, Whole, Machine}
use Rattle.enumeration_closure_laws.proofs.Places.{copy_apart}
use Rattle.enumeration_loop_laws.proofs.Letters.{gen_turn}
use Rattle.enumeration_loop_laws.proofs.Telling.{told_both}
use Rattle.enumeration_closure_laws.proofs.Ground.{Ground, paired, letter_below}
use Rattle.enumeration_closure_laws.proofs.Learning.{Learnt, learnt_then, learns_learnt, learns_known}
use Rattle.enumeration_closure_laws.proofs.Carrying.{More, awaits_more, column_more, rowed_more, open_more}

-- The copy of that row is taken out of the hand, and nothing else is.
pub record Drops (n u k : ℕ) (side : SideOfGap) (hand hand' : SideOfGap → List ℕ) : Type 0 where
  pub splits : (s : SideOfGap) (q : ℕ) → In q (hand s) → ((s ≡ side) × (q ≡ copy_at n u k side)) ⊎ In q (hand' s)

-- A filled row: all columns outside of its ends are known, and those at its ends are not, if these are apart.
pub record RowFilled (count : ℕ) (step : ℕ → ℕ → ℕ) (o t : List ℕ) (n u k l r : ℕ) : Type 0 where
  pub ordered : l ≤ r
  pub within : r < 2 * get_or o k 0
  pub from_below : ring step (first_of_pair k) (second_of_pair k) u l < count
  pub to_below : ring step (first_of_pair k) (second_of_pair k) u (suc r) < count
  pub before : (j : ℕ) → j < l → Column n t step u k j
  pub behind : (j : ℕ) → r < j → j < 2 * get_or o k 0 → Column n t step u k j
  pub left_open : l < r → Column n t step u k l → ⊥
  pub right_open : l < r → StepKnown n t (ring step (first_of_pair k) (second_of_pair k) u (suc r)) (turn (first_of_pair k) (second_of_pair k) r) → ⊥

module _ {n N : ℕ} {o : List ℕ} {step : ℕ → ℕ → ℕ} {count lt lw : ℕ} (G : Ground n N o step count lt lw)
    {Live : ℕ → ℕ → Type 0} {held : Waiting} {facts : List ℕ} {hand hand' : SideOfGap → List ℕ} {s : State} (M : Machine n o step Live count lt lw held facts hand s)
    {side : SideOfGap} {u k : ℕ} (D : Drops n u k side hand hand') (hu : u < count) (hk : k < length o) where
  -- Another row's copy that was in hand still is.
  pub still : (x i : ℕ) → i < length o → (x ≡ u → i ≡ k → ⊥) → (s' : SideOfGap) → In (copy_at n x i s') (hand s') → In (copy_at n x i s') (hand' s')
  still x i hi d s' m =
      ⊎_elim (λ z. let c = copy_apart n i k (paired G) hi hk x u s' side z.1 in absurd (d c.0 c.1)) (λ j. j) (D.splits s' (copy_at n x i s') m)

  module _ {s' : State} (K : Learnt n count (length o) held facts s s') where
    known_more : More n s.table s'.table
    known_more = record { more = K.more }

    other_live : (x i : ℕ) → x < count → i < length o → (x ≡ u → i ≡ k → ⊥) → Live x i
        → Whole n step o s'.table x i ⊎ Open n step s'.table s'.work held K.facts' hand' x i
    other_live x i hx hi d l =
        ⊎_elim (λ whole. inl (λ j hj. column_more step known_more x i (letter_below G i hi) j (whole j hj)))
        (λ O. inr (open_more (letter_below G i hi) (M.rows x i Left hx hi) (M.rows x i Right hx hi) (λ sd. K.rows.same x i sd hx hi)
        (λ sd e g he hg a. awaits_more a (λ z. z) (K.new e g hg) K.facts_more (still x i hi d sd)) O))
        (M.live x i hx hi l)

    learnt_machine : StepsAgree n count step s'.table → Whole n step o s'.table u k → Machine n o step Live count lt lw held K.facts' hand' s'
    learnt_machine T whole = record {
      told = T;
      stack = K.stack;
      queues = K.queues;
      rows = λ x i sd hx hi. rowed_more step known_more x i (letter_below G i hi) (le_refl count) (M.rows x i sd hx hi) (K.rows.same x i sd hx hi);
      live = λ x i hx hi l. by x i hx hi l (ℕ_discrete x u) (ℕ_discrete i k);
      blank = λ i h. K.beyond.beyond i h ∙ M.blank i h;
      table_length = K.table_length ∙ M.table_length;
      work_length = K.beyond.long ∙ M.work_length;
    } where
      by : (x i : ℕ) → x < count → i < length o → Live x i → Dec (x ≡ u) → Dec (i ≡ k)
          → Whole n step o s'.table x i ⊎ Open n step s'.table s'.work held K.facts' hand' x i
      by x i hx hi l (yes a) (yes b) = inl (rw (a, b) whole)
      by x i hx hi l (yes a) (no d) = other_live x i hx hi (λ a b. d b) l
      by x i hx hi l (no d) b = other_live x i hx hi (λ a b. d a) l

  module _ {l r : ℕ} (F : RowFilled count step o s.table n u k l r) (met : l ≡ r) where
    abbrev from : GroupElementId
    from = record { 0 = ring step (first_of_pair k) (second_of_pair k) u l }

    abbrev to : GroupElementId
    to = record { 0 = ring step (first_of_pair k) (second_of_pair k) u (suc r) }

    abbrev letter : GeneratorId
    letter = gen_of (pair_code k) l

    letter_low : letter.0 < n
    letter_low = rw (gen_turn k l) (letter_below G k hk l)

    once : Learnt n count (length o) held facts s (learns n from letter to s)
    once = learns_learnt G M.stack M.queues M.table_length M.work_length from letter to F.from_below letter_low F.to_below

    twice : Learnt n count (length o) held once.facts' (learns n from letter to s) (gives n (row_at step u k l r) s)
    twice = learns_learnt G once.stack once.queues (once.table_length ∙ M.table_length) (once.beyond.long ∙ M.work_length) to letter from F.to_below letter_low F.from_below

    pub gives_learnt : Learnt n count (length o) held facts s (gives n (row_at step u k l r) s)
    gives_learnt = learnt_then once twice

    gives_told : StepsAgree n count step (gives n (row_at step u k l r) s).table
    unfolding learns
    gives_told =
        told_both M.told G.looped G.fits from letter to F.from_below letter_low F.to_below
        (ap (λ (x : ℕ). step (ring step (first_of_pair k) (second_of_pair k) u l) x) (gen_turn k l) ∙ ap (λ (x : ℕ). ring step (first_of_pair k) (second_of_pair k) u (suc x)) met)
        (rw M.table_length G.table_room) G.limit

    given : Column n (gives n (row_at step u k l r) s).table step u k l
    given =
        let first-known = learns_known G M.stack M.queues M.table_length M.work_length from letter to F.from_below letter_low F.to_below in
        rw (gen_turn k l) at (twice.more (ring step (first_of_pair k) (second_of_pair k) u l) letter.0 letter_low first-known)

    gives_whole : Whole n step o (gives n (row_at step u k l r) s).table u k
    gives_whole j hj = by (dec_lt j l) (dec_lt r j) where
      kept : Column n s.table step u k j → Column n (gives n (row_at step u k l r) s).table step u k j
      kept c = column_more step (known_more gives_learnt) u k (letter_below G k hk) j c

      by : Dec (j < l) → Dec (r < j) → Column n (gives n (row_at step u k l r) s).table step u k j
      by (yes h) b = kept (F.before j h)
      by (no a) (yes h) = kept (F.behind j h hj)
      by (no a) (no b) = let q : j ≡ l = omega arith in rw q given

    pub gives_machine : Machine n o step Live count lt lw held gives_learnt.facts' hand' (gives n (row_at step u k l r) s)
    gives_machine = learnt_machine gives_learnt gives_told gives_whole
