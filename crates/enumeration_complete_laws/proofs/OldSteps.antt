-- A step to an element that is there is known. If it leads down, its row has been read. If it leads up to y, then y has two descents, and all steps of the pair's loop
-- through y but this one are known: all but the two at y touch an element that is shorter than x, and the other one at y is the step by which y was met.
use Prim.Native.Nat.{ℕ, suc, ◌+◌, ◌*◌, ◌-◌, ◌<◌, ◌≤◌}
use mathlib.Core.Path.{◌≡◌, refl, sym, ap, ◌∙◌}
use mathlib.Core.Logic.{◌⊎◌, inl, inr, ⊎_elim}
use mathlib.Core.List.{List}
use native.Mathlib.Decide.{dec_lt, dec_le, ℕ_discrete}
use native.Mathlib.Omega.{arith}
use lib.ListN.{get_or, length}
use Rattle.theory.specs.Appearance.{Ahead, row, column, First, last_of_lem}
use Rattle.theory.specs.Numbering as rule
use Rattle.theory.specs.Presentation.{pairs_below, pair_place, order_of}
use Rattle.theory.proofs.Counting.{appeared_before}
use Rattle.theory.proofs.RuleLaws.{ahead_above}
use Rattle.theory.proofs.FirstPlaces.{parent_found}
use Rattle.theory.proofs.Shortest.{shorter_first}
use Rattle.enumeration_run_laws.specs.Invariant.{StepKnown}
use Rattle.enumeration_loop_laws.specs.Rings.{turn, ring, Looped, StepsAgree, Rooted}
use Rattle.enumeration_loop_laws.proofs.Turns.{turn_other, turn_same}
use Rattle.enumeration_loop_laws.proofs.Letters.{turn_low, ring_below, ring_back}
use Rattle.enumeration_loop_laws.proofs.Walking.{ring_suc}
use Rattle.enumeration_loop_laws.proofs.Reversing.{ring_reverse, ring_swapped}
use Rattle.enumeration_loop_laws.proofs.Rooting.{rooted}
use Rattle.enumeration_closure_laws.specs.Closure.{Closed}
use Rattle.enumeration_closure_laws.proofs.Columns.{column_known}
use Rattle.enumeration_quick_laws.specs.Sweeping.{Live}
use Rattle.enumeration_quick_laws.proofs.Pairing.{PairOf, first_is, second_is, pair_of}
use Rattle.enumeration_quick_laws.proofs.Looping.{least_live}
use Rattle.theory_coxeter.specs.Tables.{PresentedTable, ExactWords}
use Rattle.theory_coxeter.proofs.Tables.{len, step_up, table_descents}
use Rattle.enumeration_complete_laws.proofs.GroupTable.{ring_turns, looped, parents, len_grow}

module _ {n N : ℕ} (o : List ℕ) (few : n ≤ 8) (full : length o ≡ pairs_below n) (orders : (k : ℕ) → k < length o → 1 ≤ get_or o k 0)
    {step : ℕ → ℕ → ℕ} (P : PresentedTable n N (order_of o) step) (X : ExactWords n (order_of o)) where
  G : Looped n N o step
  G = looped o few full P

  -- The loop of g and h at y, of which both lead down from y.
  pub record Loop (g h y : ℕ) : Type 0 where
    pub pair : PairOf o g h
    pub down : (k : ℕ) → k ≤ get_or o pair.place 0 → len P (ring step g h y k) + k ≡ len P y
    other : (k : ℕ) → k ≤ get_or o pair.place 0 → len P (ring step h g y k) + k ≡ len P y
    pub round : ring step g h y (2 * get_or o pair.place 0) ≡ y

  loop : (g h y : ℕ) → g < n → h < n → (h ≡ g → ⊥) → y < N → len P (step y g) < len P y → len P (step y h) < len P y → Loop g h y
  loop g h y hg hh d hy dg dh = let K = pair_of few full hg hh d in by K K.is where
    by : (K : PairOf o g h) → ((g < h) × (K.place ≡ pair_place g h)) ⊎ ((h < g) × (K.place ≡ pair_place h g)) → Loop g h y
    by K (inl (l, q)) =
        let t = table_descents P X hy l hh dg dh in
        record {
          pair = K;
          down = λ k hk. rw (ring_turns step g h y k) (t k (rw q at hk)).0;
          other = λ k hk. rw (ring_turns step h g y k) (t k (rw q at hk)).1;
          round = rw q (rw (q, first_is l (omega arith), second_is l (omega arith)) at (G.closed {e = y} {k = K.place} hy K.below));
        }
    by K (inr (l, q)) =
        let t = table_descents P X hy l hg dh dg in
        let r : ring step h g y (2 * get_or o (pair_place h g) 0) ≡ y = rw (q, first_is l (omega arith), second_is l (omega arith)) at (G.closed {e = y} {k = K.place} hy K.below) in
        record {
          pair = K;
          down = λ k hk. rw (ring_turns step g h y k) (t k (rw q at hk)).1;
          other = λ k hk. rw (ring_turns step h g y k) (t k (rw q at hk)).0;
          round = rw q (ring_swapped G hh hg hy (2 * get_or o (pair_place h g) 0) (omega arith) r);
        }

  -- A loop through the step from x by g that is known but for this step.
  pub record AllButOne (t : List ℕ) (x g : ℕ) : Type 0 where
    pub letter : ℕ
    pub letter_below : letter < n
    pub differs : letter ≡ g → ⊥
    pub loop : Loop g letter (step x g)
    pub around : (i : ℕ) → suc i < 2 * get_or o loop.pair.place 0 → StepKnown n t (ring step letter g x i) (turn letter g i)

  module _ {c : ℕ} {t : List ℕ} (T : StepsAgree n c step t) {x g : ℕ} (hx : x < c) (hg : g < n) (within : c ≤ N) (seen : (y h : ℕ) → h < n → Ahead y h x g → StepKnown n t y h) where
    -- Every step of an element that is shorter than x is known.
    low : (e h : ℕ) → e < N → h < n → len P e < len P x → StepKnown n t e h
    low e h he hh l = seen e h hh (row (shorter_first P.numbered he l))

    x_below : x < N
    x_below = omega arith

    module _ {p h : ℕ} (hh : h < n) (met : Ahead p h x g) (arrives : step p h ≡ step x g) (up : len P (step x g) ≡ suc (len P x)) (L : Loop g h (step x g)) where
      abbrev y : ℕ
      y = step x g

      abbrev M : ℕ
      M = get_or o L.pair.place 0

      y_below : y < N
      y_below = G.below x_below hg

      back : step y g ≡ x
      back = G.twice x_below hg

      p_below : p < N
      p_below = omega (arith, ahead_above met)

      around : (i : ℕ) → suc i < 2 * M → StepKnown n t (ring step h g x i) (turn h g i)
      around i hi = by (dec_le (suc (suc i)) M) (ℕ_discrete (suc (suc i)) (2 * M)) where
        at : (j : ℕ) → ring step h g x j ≡ ring step g h y (suc j)
        at j = sym (ring_suc step g h y j ∙ ap (λ (z : ℕ). ring step h g z j) back)

        side : (k : ℕ) → k ≤ 2 * M → ring step h g y k ≡ ring step g h y (2 * M - k)
        side k hk =
            let r = ring_reverse G hg hh y_below (2 * M) h g (λ j l. turn_other h g j (2 * M - suc j) (omega arith)) k hk in
            rw L.round at r

        by : Dec (suc (suc i) ≤ M) → Dec (suc (suc i) ≡ 2 * M) → StepKnown n t (ring step h g x i) (turn h g i)
        by (yes l) d =
            let z = ring step h g x (suc i) in
            let s = L.down (suc (suc i)) l in
            let k : StepKnown n t z (turn h g i) = low z (turn h g i) (ring_below G hh hg x_below (suc i)) (turn_low hh hg i) (omega (arith, s, ap (len P) (at (suc i)))) in
            let b : StepKnown n t (step z (turn h g i)) (turn h g i) = T.both z (turn h g i) (turn_low hh hg i) k in
            rw (ring_back G hh hg x_below i) at b
        by (no l) (yes q) =
            let e : 2 * M - 1 ≡ suc i = omega arith in
            let z : step y h ≡ p = ap (λ (u : ℕ). step u h) (sym arrives) ∙ G.twice p_below hh in
            let there : ring step h g x i ≡ p = at i ∙ ap (ring step g h y) (sym e) ∙ sym (side 1 (omega arith)) ∙ z in
            let by_h : turn h g i ≡ h = turn_same h g i 0 (omega arith) in
            rw (there, by_h) (seen p h hh met)
        by (no l) (no q) =
            let e : 2 * M - (2 * M - suc i) ≡ suc i = omega arith in
            let s = L.other (2 * M - suc i) (omega arith) in
            low (ring step h g x i) (turn h g i) (ring_below G hh hg x_below i) (turn_low hh hg i)
            (omega (arith, s, ap (len P) (at i), ap (len P) (side (2 * M - suc i) (omega arith)), ap (λ (k : ℕ). len P (ring step g h y k)) e))

    -- The step to an element that is there is known, or a loop through it is known but for it.
    pub known_or_loop : rule.Known n step x g c → step x g < c → StepKnown n t x g ⊎ AllButOne t x g
    known_or_loop K old = by (dec_lt (len P (step x g)) (len P x)) where
      y_below : step x g < N
      y_below = omega arith

      back : step (step x g) g ≡ x
      back = G.twice x_below hg

      by : Dec (len P (step x g) < len P x) → StepKnown n t x g ⊎ AllButOne t x g
      by (yes l) =
          let b : StepKnown n t (step (step x g) g) g = T.both (step x g) g hg (low (step x g) g y_below hg l) in
          inl (rw back at b)
      by (no l) = first_met (appeared_before K pos old) where
        up : len P (step x g) ≡ suc (len P x)
        up = step_up P x_below hg l

        none : len P 0 ≡ 0
        none = refl

        pos : 0 < step x g
        pos = positive (ℕ_discrete (step x g) 0) where
          positive : Dec (step x g ≡ 0) → 0 < step x g
          positive (yes z) = absurd (omega (arith, up, ap (len P) z))
          positive (no d) = omega arith

        first_met : ((p : ℕ) × (h : ℕ) × First n step (step x g) p h × Ahead p h x g) → StepKnown n t x g ⊎ AllButOne t x g
        first_met (p, h, F, a) =
            let L = loop g h (step x g) hg F.generator differ y_below (omega (arith, up, ap (len P) back)) parent_low in
            inr (record { letter = h; letter_below = F.generator; differs = differ; loop = L; around = around F.generator a F.arrives up L }) where
              p_low : p < N
              p_low = omega (arith, ahead_above a)

              down : step (step x g) h ≡ p
              down = ap (λ (u : ℕ). step u h) (sym F.arrives) ∙ G.twice p_low F.generator

              differ : h ≡ g → ⊥
              differ q =
                  let e : p ≡ x = sym down ∙ ap (step (step x g)) q ∙ back in
                  not_itself (rw (e, q) at a) where
                    not_itself : Ahead x g x g → ⊥
                    not_itself (row l) = omega arith
                    not_itself (column e l) = omega arith

              parent_low : len P (step (step x g) h) < len P (step x g)
              parent_low = rw down (omega (arith, len_grow P pos y_below, ap (len P) (parent_found F)))

  -- Where the machine is closed, it is known: the row of the loop at its least element would have given it.
  module _ {c lt lw : ℕ} {t w : List ℕ} (C : Closed n o step (Live (last_of_lem n step)) c lt lw t w) {x g : ℕ} (hx : x < c) (hg : g < n) (within : c ≤ N)
      (seen : (y h : ℕ) → h < n → Ahead y h x g → StepKnown n t y h) where
    loop_known : AllButOne t x g → StepKnown n t x g
    loop_known A =
        let k = A.loop.pair.place in
        let hk = A.loop.pair.below in
        let r : Rooted n c t step k (get_or o k 0) x g =
        rooted few full G within C.machine.told k hk (orders _ hk) g A.letter A.loop.pair.letters x hx A.around in
        r.tells
        (column_known few full C r.root k r.column r.root_below hk (least_live G (parents P) k (omega (arith, r.root_below)) r.first_up r.second_up) r.column_below r.others)

    -- The step to an element that is there is known.
    pub old_known : rule.Known n step x g c → step x g < c → StepKnown n t x g
    old_known K old = ⊎_elim (λ k. k) loop_known (known_or_loop C.machine.told hx hg within seen K old)
