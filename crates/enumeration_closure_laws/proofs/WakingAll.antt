-- All copies of a list that has been taken are woken, one after the other, and the machine stays right.
use Prim.Native.Nat.{ℕ, zero, suc, ◌+◌, ◌-◌, ◌<◌}
use mathlib.Core.Path.{◌≡◌, refl, sym, ◌∙◌}
use mathlib.Core.Logic.{◌⊎◌, inl, inr}
use mathlib.Core.List.{List, [], ◌∷◌}
use native.Mathlib.Omega.{arith}
use borrow.Author.Tests.{ne_eqb}
use lib.ListN.{get_or, length}
use Rattle.enumeration_rows.specs.declared.inner.SideOfGap.{SideOfGap}
use Rattle.enumeration_rows.specs.declared.inner.SideOfGap.TheVariants.{Left, Right}
use Rattle.enumeration_wake.specs.Waking.{State, wakes, wakes_all}
use Rattle.enumeration_run_laws.specs.Invariant.{StepKnown}
use Rattle.enumeration_run_laws.specs.Stack.{Absent}
use Rattle.enumeration_closure_laws.specs.Queues.{In, here, there, list_of, Chain, end, Waiter, Hand, Waiting}
use Rattle.enumeration_closure_laws.specs.Closure.{Machine}
use Rattle.enumeration_closure_laws.proofs.Chains.{hand_next}
use Rattle.enumeration_closure_laws.proofs.Places.{copy_apart, list_once}
use Rattle.enumeration_closure_laws.proofs.Lists.{in_empty, absent}
use Rattle.enumeration_closure_laws.proofs.Ground.{Ground, paired, left_right}
use Rattle.enumeration_closure_laws.proofs.Waking.{Woke, wakes_woke}

-- The other side.
abbrev pub opposite : SideOfGap → SideOfGap
opposite Left = Right
opposite Right = Left

-- These on that side, those on the other.
abbrev pub sided : SideOfGap → List ℕ → List ℕ → SideOfGap → List ℕ
sided Left ps qs Left = ps
sided Left ps qs Right = qs
sided Right ps qs Left = qs
sided Right ps qs Right = ps

-- While the copies are woken that waited for the step from e by g: the ps of that side are still to come, and the qs of the other side.
pub record Rousing (n : ℕ) (o : List ℕ) (step : ℕ → ℕ → ℕ) (Live : ℕ → ℕ → Type 0) (count lt lw : ℕ) (e g : ℕ) (side : SideOfGap) (at : ℕ) (ps : List ℕ) (from : ℕ) (qs : List ℕ)
    (s : State) : Type 0 where
  pub held : Waiting
  pub facts : List ℕ
  pub machine : Machine n o step Live count lt lw held facts (sided side ps qs) s
  pub known : StepKnown n s.table e g
  pub empty : (sd : SideOfGap) → held sd e g ≡ []
  pub mine : Hand n count (length o) side s.work (list_of n side e g) at ps
  pub other : Hand n count (length o) (opposite side) s.work (list_of n (opposite side) e g) from qs

opposite_apart : (side : SideOfGap) → opposite side ≡ side → ⊥
opposite_apart Left q = left_right (sym q)
opposite_apart Right q = left_right q

drops_first : (side sd : SideOfGap) (p q : ℕ) (ps qs : List ℕ) → In q (sided side (p ∷ ps) qs sd) → ((sd ≡ side) × (q ≡ p)) ⊎ In q (sided side ps qs sd)
drops_first Left Left p q ps qs (here z) = inl (refl, sym z)
drops_first Left Left p q ps qs (there i) = inr i
drops_first Left Right p q ps qs i = inr i
drops_first Right Left p q ps qs i = inr i
drops_first Right Right p q ps qs (here z) = inl (refl, sym z)
drops_first Right Right p q ps qs (there i) = inr i

chain_end : {w : List ℕ} {at : ℕ} → Chain w at [] → at ≡ 0
chain_end (end z) = z

module _ {n N : ℕ} {o : List ℕ} {step : ℕ → ℕ → ℕ} {count lt lw : ℕ} (G : Ground n N o step count lt lw) {Live : ℕ → ℕ → Type 0}
    {e g : ℕ} (he : e < count) (hg : g < n) {side : SideOfGap} {from : ℕ} {qs : List ℕ} where
  module _ {at p : ℕ} {ps : List ℕ} {s : State} (I : Rousing n o step Live count lt lw e g side at (p ∷ ps) from qs s) where
    waiter : Waiter n count (length o) side s.work (list_of n side e g) p
    waiter = I.mine.mine p (here refl)

    -- It is in no list: its row names the list that has been taken.
    free : (x h : ℕ) → x < count → h < n → In p (I.held side x h) → ⊥
    free x h hx hh i =
        let q = ((I.machine.queues.queue side x h hx hh).hand.mine p i).waits_in in
        let c = list_once side side x e hh hg (sym q ∙ waiter.waits_in) in
        in_empty (rw (c.1, c.2) at i) (I.empty side)

    woke : Woke n o step Live count lt lw I.held (sided side ps qs) p s (wakes n p side s)
    woke =
        let c = waiter.stands in
        rw c
        (wakes_woke G I.machine {side = side} {u = waiter.element} {k = waiter.number}
        (record { splits = λ sd q i. rw c at (drops_first side sd p q ps qs i) }) waiter.element_below waiter.number_below (λ x h hx hh. rw c at (free x h hx hh)))

    -- It is none of the copies of the other side.
    other_absent : Absent p qs
    other_absent =
        absent qs
        (λ i.
        let v = I.other.mine p i in
        opposite_apart side
        (copy_apart n v.number waiter.number (paired G) v.number_below waiter.number_below v.element waiter.element (opposite side) side (sym v.stands ∙ waiter.stands)).2)

    rouse_one : Rousing n o step Live count lt lw e g side (get_or s.work (p + 5) 0) ps from qs (wakes n p side s)
    rouse_one = record {
      held = woke.held';
      facts = woke.facts;
      machine = woke.machine;
      known = woke.more e g hg I.known;
      empty = λ sd. woke.lists sd e g hg I.known ∙ I.empty sd;
      mine = woke.hands side e g (get_or s.work (p + 5) 0) ps hg I.known I.mine.once.0 (hand_next I.mine).1;
      other = woke.hands (opposite side) e g from qs hg I.known other_absent I.other;
    }

    rouse_next : (k : ℕ) → Rousing n o step Live count lt lw e g side 0 [] from qs (wakes_all k n (get_or s.work (p + 5) 0) side (wakes n p side s))
        → Rousing n o step Live count lt lw e g side 0 [] from qs (wakes_all (suc k) n at side s)
    unfolding wakes_all
    rouse_next k J =
        let z = (hand_next I.mine).0 in
        let d : at ≡ 0 → ⊥ = omega arith in
        let y : at - 1 ≡ p = omega arith in
        simp (ne_eqb _ _ d, y) J

  rouse_end : {at : ℕ} {s : State} → Rousing n o step Live count lt lw e g side at [] from qs s → Rousing n o step Live count lt lw e g side 0 [] from qs (wakes_all zero n at side s)
  unfolding wakes_all
  rouse_end I = rw (chain_end I.mine.chain) at I

  pub rouse_all : (k : ℕ) (ps : List ℕ) {at : ℕ} {s : State} → k ≡ length ps → Rousing n o step Live count lt lw e g side at ps from qs s
      → Rousing n o step Live count lt lw e g side 0 [] from qs (wakes_all k n at side s)
  rouse_all zero [] q I = rouse_end I
  rouse_all zero (p ∷ ps) q I = absurd (omega arith)
  rouse_all (suc k) [] q I = absurd (omega arith)
  rouse_all (suc k) (p ∷ ps) q I = rouse_next I k (rouse_all k ps (omega arith) (rouse_one I))
