-- A fact taken from the stack, with all that it wakes, leaves the machine right.
use Prim.Native.Nat.{ℕ, ◌+◌, ◌<◌}
use mathlib.Core.Path.{◌≡◌, refl, sym, subst, fun_ext, ◌∙◌}
use mathlib.Core.Logic.{inl, inr, ⊎_elim}
use mathlib.Core.List.{List, [], ◌∷◌}
use native.Mathlib.Decide.{ℕ_discrete}
use native.Mathlib.Nat.{le_refl}
use native.Mathlib.Omega.{arith}
use lib.ListN.{get_or, length}
use Rattle.enumeration_rows.specs.declared.inner.SideOfGap.{SideOfGap}
use Rattle.enumeration_rows.specs.declared.inner.SideOfGap.TheVariants.{Left, Right}
use Rattle.enumeration_rows.specs.Rows.{place_at}
use Rattle.enumeration_wake.specs.Waking.{State, state}
use Rattle.enumeration_facts.specs.Facts.{emptied, updated}
use Rattle.enumeration_run_laws.specs.Invariant.{StepKnown}
use Rattle.enumeration_run_laws.specs.Stack.{Absent, Stack}
use Rattle.enumeration_run_laws.proofs.Emptying.{emptied_stack}
use Rattle.enumeration_closure_laws.specs.Queues.{In, here, there, place_of, list_of, Waiting, Emptied}
use Rattle.enumeration_closure_laws.specs.Closure.{Awaits, listed, in_hand, Machine, none_in_hand}
use Rattle.enumeration_closure_laws.proofs.Places.{place_once}
use Rattle.enumeration_closure_laws.proofs.Taking.{takes}
use Rattle.enumeration_closure_laws.proofs.Lists.{in_none}
use Rattle.enumeration_closure_laws.proofs.Ground.{Ground, sized, letter_below}
use Rattle.enumeration_closure_laws.proofs.Carrying.{rowed_more, open_more}
use Rattle.enumeration_closure_laws.proofs.WakingAll.{sided, Rousing, rouse_all}

-- The machine between two facts: no copy is in hand, whatever waits and whatever is on the stack.
pub record Idle (n : ℕ) (o : List ℕ) (step : ℕ → ℕ → ℕ) (Live : ℕ → ℕ → Type 0) (count lt lw : ℕ) (s : State) : Type 0 where
  pub held : Waiting
  pub facts : List ℕ
  pub machine : Machine n o step Live count lt lw held facts none_in_hand s

in_sided : (f : SideOfGap → List ℕ) (sd : SideOfGap) {q : ℕ} → In q (f sd) → In q (sided Left (f Left) (f Right) sd)
in_sided f Left i = i
in_sided f Right i = i

in_tail : {p q : ℕ} {ps : List ℕ} → In q (p ∷ ps) → (p ≡ q → ⊥) → In q ps
in_tail (here z) d = absurd (d z)
in_tail (there i) d = i

module _ {n N : ℕ} {o : List ℕ} {step : ℕ → ℕ → ℕ} {count lt lw : ℕ} (G : Ground n N o step count lt lw) {Live : ℕ → ℕ → Type 0} where
  module _ {e g : ℕ} (he : e < count) (hg : g < n) {held : Waiting} {fs : List ℕ} {s : State} (M : Machine n o step Live count lt lw held (place_of n e g ∷ fs) none_in_hand s)
      (known : StepKnown n s.table e g) (out : Absent (place_of n e g) fs) {under : ℕ} (st : Stack n count s.table s.work under fs) where
    taken : Emptied n count (length o) s.work (emptied s.work (place_of n e g)) held e g
    taken = takes (sized G s.work M.work_length) M.queues e g he hg

    abbrev hand : SideOfGap → List ℕ
    hand = sided Left (held Left e g) (held Right e g)

    -- What waited for this step is in hand, and what waited for another waits for it still.
    awaits_taken : (sd : SideOfGap) {p : ℕ} (x h : ℕ) → h < n → Awaits n s.table held (place_of n e g ∷ fs) none_in_hand sd p x h → Awaits n s.table taken.held' fs hand sd p x h
    awaits_taken sd {p} x h hh (in_hand i) = absurd (in_none i)
    awaits_taken sd {p} x h hh (listed i c) = by (ℕ_discrete x e) (ℕ_discrete h g) where
      elsewhere : (x ≡ e → h ≡ g → ⊥) → Awaits n s.table taken.held' fs hand sd p x h
      elsewhere d =
          listed (rw (taken.others sd x h (λ z. d z.0 z.1)) i)
          (λ k. in_tail (c k) (λ q. let z = place_once e x hg hh q in d (sym z.0) (sym z.1)))

      by : Dec (x ≡ e) → Dec (h ≡ g) → Awaits n s.table taken.held' fs hand sd p x h
      by (yes a) (yes b) = in_hand (in_sided (λ f. held f e g) sd (rw (a, b) at i))
      by (yes a) (no d) = elsewhere (λ a b. d b)
      by (no d) b = elsewhere (λ a b. d a)

    taken_machine : Machine n o step Live count lt lw taken.held' fs hand (state s.table (emptied s.work (place_of n e g)) under)
    unfolding place_at
    taken_machine = record {
      told = M.told;
      stack = emptied_stack e g hg refl out st;
      queues = taken.queues;
      rows = λ u k sd hu hk. rowed_more step (record { more = λ y h hh z. z }) u k (letter_below G k hk) (le_refl count) (M.rows u k sd hu hk) (taken.rows.same u k sd hu hk);
      live = λ u k hu hk v.
          ⊎_elim (λ whole. inl whole)
          (λ O. inr (open_more (letter_below G k hk) (M.rows u k Left hu hk) (M.rows u k Right hu hk) (λ sd. taken.rows.same u k sd hu hk)
          (λ sd x h hx hh a. awaits_taken sd x h hh a) O))
          (M.live u k hu hk v);
      blank = λ i h. taken.beyond.beyond i h ∙ M.blank i h;
      table_length = M.table_length;
      work_length = taken.beyond.long ∙ M.work_length;
    }

    begin : Rousing n o step Live count lt lw e g Left (get_or s.work (list_of n Left e g) 0) (held Left e g) (get_or s.work (list_of n Right e g) 0) (held Right e g)
        (state s.table (emptied s.work (place_of n e g)) under)
    begin = record {
      held = taken.held';
      facts = fs;
      machine = taken_machine;
      known = known;
      empty = taken.empty;
      mine = taken.hands Left;
      other = taken.hands Right;
    }

    turned : {from : ℕ} {qs : List ℕ} {s' : State} → Rousing n o step Live count lt lw e g Left 0 [] from qs s' → Rousing n o step Live count lt lw e g Right from qs 0 [] s'
    turned {qs = qs} {s'} I = record {
      held = I.held;
      facts = I.facts;
      machine = subst (λ (f : SideOfGap → List ℕ). Machine n o step Live count lt lw I.held I.facts f s') (fun_ext same) I.machine;
      known = I.known;
      empty = I.empty;
      mine = I.other;
      other = I.mine;
    } where
      same : (sd : SideOfGap) → sided Left [] qs sd ≡ sided Right qs [] sd
      same Left = refl
      same Right = refl

    ended : {s' : State} → Rousing n o step Live count lt lw e g Right 0 [] 0 [] s' → Idle n o step Live count lt lw s'
    ended {s'} I = record {
      held = I.held;
      facts = I.facts;
      machine = subst (λ (f : SideOfGap → List ℕ). Machine n o step Live count lt lw I.held I.facts f s') (fun_ext same) I.machine;
    } where
      same : (sd : SideOfGap) → sided Right [] [] sd ≡ none_in_hand sd
      same Left = refl
      same Right = refl

    pub updated_idle : Idle n o step Live count lt lw (updated n (place_of n e g) (state s.table s.work under))
    unfolding updated
    updated_idle =
        let five : place_of n e g + 3 + 2 ≡ place_of n e g + 5 = omega arith in
        let lefts = rouse_all G he hg (get_or s.work (place_of n e g + 2) 0) (held Left e g) (taken.counts Left) begin in
        ended (rouse_all G he hg (get_or s.work (place_of n e g + 5) 0) (held Right e g) (rw five at (taken.counts Right)) (turned lefts))
