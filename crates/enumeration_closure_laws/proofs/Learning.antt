-- A step is learnt (`learns`): it becomes a fact on the stack if it was not known, and the waiting lists, the rows and the copies in hand stay.
use Prim.Native.Nat.{ℕ, ◌+◌, ◌*◌, ◌<◌}
use mathlib.Core.Path.{◌≡◌, refl, ◌∙◌}
use mathlib.Core.Logic.{◌⊎◌, inl, inr, ⊎_elim}
use mathlib.Core.Bool.{Bool, true, false}
use mathlib.Core.List.{List, ◌∷◌}
use native.Mathlib.Nat.{lt_of_lt_of_le}
use native.Mathlib.Decide.{ℕ_discrete}
use native.Mathlib.Omega.{arith}
use borrow.Author.Tests.{eqb-true, eqb-false}
use lib.ListN.{get_or, length}
use Rattle.egg.specs.declared.GroupElementId.{GroupElementId}
use Rattle.egg.specs.declared.GeneratorId.{GeneratorId}
use Rattle.egg.specs.Table.{pick, put_at, start_of, succ_at}
use Rattle.egg.proofs.Cells.{cell_inside, put_same}
use Rattle.build_reading.specs.Build.{is_new, set_step}
use Rattle.enumeration_rows.specs.declared.inner.SideOfGap.{SideOfGap}
use Rattle.enumeration_rows.specs.Rows.{place_at}
use Rattle.enumeration_wake.specs.Waking.{State, state, link, below_at, learns}
use Rattle.enumeration_run_laws.specs.Invariant.{StepKnown}
use Rattle.enumeration_run_laws.specs.Stack.{Stack, above}
use Rattle.enumeration_run_laws.proofs.Spots.{place_link}
use Rattle.enumeration_run_laws.proofs.Marking.{set_length}
use Rattle.enumeration_run_laws.proofs.Knowing.{set_more, set_known}
use Rattle.enumeration_run_laws.proofs.Since.{set_other}
use Rattle.enumeration_run_laws.proofs.Stacking.{stack_more, stack_put, stack_absent, stack_small, place_within}
use Rattle.enumeration_closure_laws.specs.Queues.{In, here, there, place_of, Hand, Waiting, Queues, SameStoredRows, SameBeyond}
use Rattle.enumeration_closure_laws.proofs.Taking.{pushes}
use Rattle.enumeration_closure_laws.proofs.Ground.{Ground, sized}

-- From the state s to s': all that was known is known, and what is known anew is on the stack; lists, rows and copies in hand are as they were.
pub record Learnt (n count pairs : ℕ) (held : Waiting) (facts : List ℕ) (s s' : State) : Type 0 where
  pub facts' : List ℕ
  pub stack : Stack n count s'.table s'.work s'.top facts'
  pub facts_more : (p : ℕ) → In p facts → In p facts'
  pub more : (x h : ℕ) → h < n → StepKnown n s.table x h → StepKnown n s'.table x h
  pub new : (x h : ℕ) → h < n → StepKnown n s'.table x h → StepKnown n s.table x h ⊎ In (place_of n x h) facts'
  pub queues : Queues n count pairs s'.work held
  pub rows : SameStoredRows n count pairs s.work s'.work
  pub beyond : SameBeyond n count s.work s'.work
  pub hands : (side : SideOfGap) (list at : ℕ) (ps : List ℕ) → Hand n count pairs side s.work list at ps → Hand n count pairs side s'.work list at ps
  pub table_length : length s'.table ≡ length s.table

-- One after the other.
pub learnt_then : {n count pairs : ℕ} {held : Waiting} {facts : List ℕ} {s s' s'' : State} (A : Learnt n count pairs held facts s s') → Learnt n count pairs held A.facts' s' s''
    → Learnt n count pairs held facts s s''
learnt_then A B = record {
  facts' = B.facts';
  stack = B.stack;
  facts_more = λ p i. B.facts_more p (A.facts_more p i);
  more = λ x h hh k. B.more x h hh (A.more x h hh k);
  new = λ x h hh k. ⊎_elim (λ k'. ⊎_elim inl (λ i. inr (B.facts_more _ i)) (A.new x h hh k')) inr (B.new x h hh k);
  queues = B.queues;
  rows = record { same = λ u k side hu hk. B.rows.same u k side hu hk ∙ A.rows.same u k side hu hk };
  beyond = record { long = B.beyond.long ∙ A.beyond.long; beyond = λ i h. B.beyond.beyond i h ∙ A.beyond.beyond i h };
  hands = λ side list at ps H. B.hands side list at ps (A.hands side list at ps H);
  table_length = B.table_length ∙ A.table_length;
}

module _ {n N : ℕ} {o : List ℕ} {step : ℕ → ℕ → ℕ} {count lt lw : ℕ} (G : Ground n N o step count lt lw)
    {held : Waiting} {facts : List ℕ} {s : State} (st : Stack n count s.table s.work s.top facts) (queues : Queues n count (length o) s.work held)
    (tl : length s.table ≡ lt) (wl : length s.work ≡ lw)
    (e : GroupElementId) (g : GeneratorId) (r : GroupElementId) (he : e.0 < count) (hg : g.0 < n) (hr : r.0 < count) where
  succ_inside : succ_at n e g < length s.table
  succ_inside = let low : g.0 < 2 * n + 4 = omega arith in rw tl (omega (arith, cell_inside n low he, G.table_room))

  pub learns_known : StepKnown n (learns n e g r s).table e.0 g.0
  unfolding learns
  learns_known = set_known n s.table e g r succ_inside (omega (arith, G.limit))

  -- Only the step itself may have become known.
  only_here : (x h : ℕ) → h < n → (x ≡ e.0 → h ≡ g.0 → ⊥) → StepKnown n (set_step s.table n e g r) x h → StepKnown n s.table x h
  only_here x h hh d k = rw (set_other n s.table e g r hg x h (omega arith) d (λ a b. omega arith)) at k

  pub learns_learnt : Learnt n count (length o) held facts s (learns n e g r s)
  unfolding learns place_at
  learns_learnt = by (is_new s.table n e g) refl where
    by : (b : Bool) → is_new s.table n e g ≡ b
        → Learnt n count (length o) held facts s
        (state (set_step s.table n e g r) (pick b (put_at s.work (below_at (place_at n e g)) s.top) s.work) (pick b (link n e g) s.top))
    by true q =
        let unknown : get_or s.table (start_of n e.0 + g.0) 0 ≡ 0 = eqb-true _ _ q in
        let known = set_known n s.table e g r succ_inside (omega (arith, G.limit)) in
        let out = stack_absent e.0 g.0 hg unknown st in
        let below = put_same s.work (place_at n e g + 6) s.top (rw wl (place_within G.few G.limit G.table_room G.work_room e g he hg))
        (stack_small G.few G.limit G.table_room G.work_room st) in
        let kept = stack_put (place_at n e g) s.top out (stack_more (set_more n s.table e g r) (record { same = λ i x. refl }) st) in
        let P = pushes (sized G s.work wl) queues e.0 g.0 he hg s.top in
        record {
          facts' = place_at n e g ∷ facts;
          stack = above {fs = facts} (place_link G.few e g (lt_of_lt_of_le he G.limit) hg)
              (record { element = e.0; generator = g.0; element_below = he; generator_below = hg; stands = refl; known = known }) out (rw below kept);
          facts_more = λ p i. there i;
          more = set_more n s.table e g r;
          new = λ x h hh k. pushed x h hh k (ℕ_discrete x e.0) (ℕ_discrete h g.0);
          queues = P.queues;
          rows = P.rows;
          beyond = P.beyond;
          hands = P.hands;
          table_length = set_length s.table n e g r;
        } where
          pushed : (x h : ℕ) → h < n → StepKnown n (set_step s.table n e g r) x h → Dec (x ≡ e.0) → Dec (h ≡ g.0) → StepKnown n s.table x h ⊎ In (place_of n x h) (place_at n e g ∷ facts)
          pushed x h hh k (yes a) (yes b) = let z : place_at n e g ≡ place_of n x h = rw (a, b) in inr (here z)
          pushed x h hh k (yes a) (no d) = inl (only_here x h hh (λ a b. d b) k)
          pushed x h hh k (no d) b = inl (only_here x h hh (λ a b. d a) k)
    by false q =
        let known : StepKnown n s.table e.0 g.0 = eqb-false _ _ q in
        record {
          facts' = facts;
          stack = stack_more (set_more n s.table e g r) (record { same = λ i x. refl }) st;
          facts_more = λ p i. i;
          more = set_more n s.table e g r;
          new = λ x h hh k. inl (before x h hh k (ℕ_discrete x e.0) (ℕ_discrete h g.0));
          queues = queues;
          rows = record { same = λ u k side hu hk. refl };
          beyond = record { long = refl; beyond = λ i h. refl };
          hands = λ side list at ps H. H;
          table_length = set_length s.table n e g r;
        } where
          before : (x h : ℕ) → h < n → StepKnown n (set_step s.table n e g r) x h → Dec (x ≡ e.0) → Dec (h ≡ g.0) → StepKnown n s.table x h
          before x h hh k (yes a) (yes b) = rw (a, b) (eqb-false _ _ q)
          before x h hh k (yes a) (no d) = only_here x h hh (λ a b. d b) k
          before x h hh k (no d) b = only_here x h hh (λ a b. d a) k
