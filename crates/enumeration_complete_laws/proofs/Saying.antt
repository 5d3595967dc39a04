-- What the loops say of a step beside the group's table: where it leads, if anything; and a loop that is known but for this step says it.
use Prim.Native.Nat.{ℕ, zero, suc, ◌+◌, ◌*◌, ◌-◌, ◌<◌, ◌≤◌}
use mathlib.Core.Path.{◌≡◌, refl, sym, ap, ap₂, ◌∙◌, subst}
use mathlib.Core.Bool.{Bool, true, false}
use mathlib.Core.Logic.{◌⊎◌, inl, inr}
use mathlib.Core.List.{List}
use native.Mathlib.Decide.{dec_lt, ℕ_discrete}
use native.Mathlib.Omega.{arith}
use borrow.Author.Tests.{eq-eqb, ne_eqb, le-ltb, eqb-true, eqb-false}
use lib.ListN.{get_or}
use lib.Dec.{eqb}
use Rattle.egg.specs.Table.{pick, start_of, length_of}
use Rattle.enumeration_fill.specs.Walk.{walk_of, walk_from}
use Rattle.enumeration_quick_loops.specs.Loops.{order_for, loop_by, loop_from}
use Rattle.theory.specs.Presentation.{order_of}
use Rattle.enumeration_run_laws.specs.Invariant.{StepKnown}
use Rattle.enumeration_run.specs.Limits.{Limits}
use Rattle.enumeration_run_laws.proofs.Running.{pairs_full}
use Rattle.enumeration_loop_laws.specs.Rings.{turn, ring, first_of_pair, second_of_pair, Looped, StepsAgree}
use Rattle.enumeration_loop_laws.proofs.Turns.{turn_other, turn_odd}
use Rattle.enumeration_loop_laws.proofs.Letters.{turn_low, ring_below}
use Rattle.enumeration_loop_laws.proofs.Walking.{ring_suc, walk_ring}
use Rattle.enumeration_loop_laws.proofs.Reversing.{ring_swapped}
use Rattle.enumeration_quick_laws.proofs.Finding.{Found, found}
use Rattle.enumeration_quick_laws.proofs.Pairing.{PairOf, pair_of}
use Rattle.theory_coxeter.specs.Tables.{PresentedTable, ExactWords}
use Rattle.theory_coxeter.proofs.Tables.{len, step_up}
use Rattle.enumeration_complete_laws.proofs.GroupTable.{looped}
use Rattle.enumeration_complete_laws.proofs.OldSteps.{AllButOne}
use Rattle.enumeration_complete_laws.specs.Ends.{TableWords}

-- Where all steps of the way are known, the walk goes all its way.
module _ {n : ℕ} (t : List ℕ) {step : ℕ → ℕ → ℕ} (right : (e g : ℕ) → g < n → StepKnown n t e g → get_or t (start_of n e + g) 0 ≡ suc (step e g)) where
  walk_known : (j x a b : ℕ) → a < n → b < n → ((i : ℕ) → i < j → StepKnown n t (ring step a b x i) (turn a b i)) → walk_from j t n x a b ≡ walk_of (ring step a b x j) 0
  unfolding walk_from
  walk_known zero x a b ha hb k = refl
  walk_known (suc j) x a b ha hb k =
      let here : StepKnown n t x a = k 0 (omega arith) in
      let to : get_or t (start_of n x + a) 0 - 1 ≡ step x a = omega (arith, right x a ha here) in
      let on = walk_known j (step x a) b a hb ha (λ i h. rw (ring_suc step a b x i, turn_other a b (suc i) i refl) at (k (suc i) (omega arith))) in
      simp (ne_eqb _ _ here, to, ring_suc step a b x j) on

-- Where no loop says anything, none does.
pub none_says : (t o : List ℕ) (n e g f h : ℕ) → loop_from f t o n e g h ≡ 0 → (i : ℕ) → i < f → loop_by t o n e g (h + i) ≡ 0
unfolding loop_from
none_says t o n e g zero h q i l = absurd (omega arith)
none_says t o n e g (suc f) h q i l = by (eqb (loop_by t o n e g h) 0) refl q (none_says t o n e g f (h + 1)) i l where
  by : (b : Bool) → eqb (loop_by t o n e g h) 0 ≡ b → pick b (loop_from f t o n e g (h + 1)) (loop_by t o n e g h) ≡ 0
      → (loop_from f t o n e g (h + 1) ≡ 0 → (i : ℕ) → i < f → loop_by t o n e g (h + 1 + i) ≡ 0) → (i : ℕ) → i < suc f → loop_by t o n e g (h + i) ≡ 0
  by true p q ih zero l = let z : h + 0 ≡ h = omega arith in rw z (eqb-true _ _ p)
  by true p q ih (suc i) l = let z : h + suc i ≡ h + 1 + i = omega arith in rw z (ih q i (omega arith))
  by false p q ih i l = absurd (eqb-false _ _ p q)

module _ {n N : ℕ} (o : List ℕ) {room lt lw : ℕ} (L : Limits n o room lt lw) {step : ℕ → ℕ → ℕ} (P : PresentedTable n N (order_of o) step) (X : ExactWords n (order_of o)) where
  G : Looped n N o step
  G = looped o L.few (pairs_full L) P

  module _ {c : ℕ} {q : List ℕ} (T : StepsAgree n c step q) (W : TableWords n step c q) {x g : ℕ} (hx : x < c) (hg : g < n) (within : c ≤ N) where
    x_below : x < N
    x_below = omega arith

    -- What a loop says is right.
    pub said_right : (r : ℕ) → loop_from n q o n x g 0 ≡ suc r → (r ≡ step x g) × (r < c)
    said_right r s = by (pair_of L.few (pairs_full L) hg F.below F.other) where
      F : Found q o n x g r
      F = found q o n x g n 0 r (omega arith) s

      h : ℕ
      h = F.letter

      by : PairOf o g F.letter → (r ≡ step x g) × (r < c)
      by K =
          let m = order_for o g F.letter in
          let k = K.place in
          let positive = (L.orders k K.below).0 in
          let walk = walk_ring q T.succ (2 * m - 1) x F.letter g F.below hg F.whole in
          let ends : ring step F.letter g x (2 * m - 1) ≡ r = sym walk.0 ∙ F.ends in
          let round : ring step F.letter g x (2 * m) ≡ x = around K.letters K.order (G.closed {e = x} {k = k} x_below K.below) in
          let suc_is : 2 * m ≡ suc (2 * m - 1) = omega (arith, K.order) in
          let odd : turn F.letter g (2 * m - 1) ≡ g = turn_odd F.letter g (2 * m - 1) (omega (arith, K.order)) in
          let back : step r g ≡ x = ap₂ step (sym ends) (sym odd) ∙ ap (ring step F.letter g x) (sym suc_is) ∙ round in
          let low : r < N = rw (← ends) (ring_below G F.below hg x_below (2 * m - 1)) in
          let one : suc (2 * m - 2) ≡ 2 * m - 1 = omega (arith, K.order) in
          let last : ring step F.letter g x (suc (2 * m - 2)) < c =
          T.to_below (ring step F.letter g x (2 * m - 2)) (turn F.letter g (2 * m - 2)) (turn_low F.below hg (2 * m - 2)) (walk.1 (2 * m - 2) (omega (arith, K.order))) in
          (sym (G.twice low hg) ∙ ap (λ (u : ℕ). step u g) back, subst (λ (u : ℕ). u < c) (ap (ring step F.letter g x) one ∙ ends) last) where
            around : ((F.letter ≡ first_of_pair K.place) × (g ≡ second_of_pair K.place)) ⊎ ((F.letter ≡ second_of_pair K.place) × (g ≡ first_of_pair K.place))
                → order_for o g F.letter ≡ get_or o K.place 0 → ring step (first_of_pair K.place) (second_of_pair K.place) x (2 * get_or o K.place 0) ≡ x
                → ring step F.letter g x (2 * order_for o g F.letter) ≡ x
            around (inl (a, b)) e r = rw (e, a, b) r
            around (inr (a, b)) e r =
                let s : ring step g F.letter x (2 * order_for o g F.letter) ≡ x = rw (e, a, b) r in
                ring_swapped G hg F.below x_below (2 * order_for o g F.letter) (omega arith) s

    -- A loop that is known but for the step says it.
    pub loop_says : get_or q (start_of n x + g) 0 ≡ 0 → (A : AllButOne o L.few (pairs_full L) (λ k hk. (L.orders k hk).0) P X q x g) → loop_by q o n x g A.letter ≡ 0 → ⊥
    unfolding loop_by
    loop_says new A z =
        let says : loop_by q o n x g h ≡ v + 1 = simp (ne_eqb h g A.differs, le-ltb (length_of q n x + 1) (order_for o g h) asked, walked, eq-eqb _ _ unknown) in
        omega arith where
          h : ℕ
          h = A.letter

          m : ℕ
          m = order_for o g A.letter

          v : ℕ
          v = ring step A.letter g x (2 * order_for o g A.letter - 1)

          y_below : step x g < N
          y_below = G.below x_below hg

          back : step (step x g) g ≡ x
          back = G.twice x_below hg

          positive : 1 ≤ order_for o g A.letter
          positive = rw A.loop.pair.order (L.orders A.loop.pair.place A.loop.pair.below).0

          -- The word is long enough for the relation to be asked.
          asked : order_for o g A.letter ≤ length_of q n x + 1
          asked =
              let d = A.loop.down (get_or o A.loop.pair.place 0) (omega arith) in
              omega (arith, d, A.loop.pair.order, W.letters x hx, longer (dec_lt (len P (step x g)) (len P x))) where
                longer : Dec (len P (step x g) < len P x) → len P (step x g) ≤ len P x + 1
                longer (yes l) = omega arith
                longer (no l) = omega (arith, step_up P x_below hg l)

          walked : walk_from (2 * order_for o g A.letter - 1) q n x A.letter g ≡ walk_of (ring step A.letter g x (2 * order_for o g A.letter - 1)) 0
          walked = walk_known q T.succ (2 * order_for o g A.letter - 1) x A.letter g A.letter_below hg (λ i l. A.around i (omega (arith, A.loop.pair.order)))

          arrives : ring step A.letter g x (2 * order_for o g A.letter - 1) ≡ step x g
          arrives =
              let k = 2 * order_for o g A.letter - 1 in
              let i : suc k ≡ 2 * get_or o A.loop.pair.place 0 = omega (arith, A.loop.pair.order, positive) in
              sym (ring_suc step g A.letter (step x g) k ∙ ap (λ (u : ℕ). ring step A.letter g u k) back) ∙ ap (ring step g A.letter (step x g)) i ∙ A.loop.round

          unknown : get_or q (start_of n (ring step A.letter g x (2 * order_for o g A.letter - 1)) + g) 0 ≡ 0
          unknown = by (ℕ_discrete (get_or q (start_of n (step x g) + g) 0) 0) where
            by : Dec (get_or q (start_of n (step x g) + g) 0 ≡ 0) → get_or q (start_of n (ring step A.letter g x (2 * order_for o g A.letter - 1)) + g) 0 ≡ 0
            by (yes z) = rw arrives z
            by (no d) =
                let b : StepKnown n q (step (step x g) g) g = T.both (step x g) g hg d in
                absurd (subst (λ (u : ℕ). StepKnown n q u g) back b new)
