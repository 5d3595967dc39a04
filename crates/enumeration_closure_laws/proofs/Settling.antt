-- Facts are taken from the stack until none is left: the machine stays right, and is `Closed` then.
use Prim.Native.Nat.{ℕ, zero, suc, ◌+◌, ◌-◌}
use mathlib.Core.Path.{◌≡◌, refl, sym, subst}
use mathlib.Core.List.{List, [], ◌∷◌}
use native.Mathlib.Omega.{arith}
use borrow.Author.Tests.{eq-eqb, ne_eqb}
use lib.ListN.{get_or}
use Rattle.enumeration_rows.specs.Rows.{place_at}
use Rattle.enumeration_wake.specs.Waking.{State, state}
use Rattle.enumeration_facts.specs.Facts.{updated, settle_from}
use Rattle.enumeration_run_laws.specs.Stack.{Fact, Absent, Stack, bottom, above}
use Rattle.enumeration_closure_laws.specs.Queues.{place_of, Waiting}
use Rattle.enumeration_closure_laws.specs.Closure.{Machine, none_in_hand, Closed}
use Rattle.enumeration_closure_laws.proofs.Ground.{Ground}
use Rattle.enumeration_closure_laws.proofs.Updating.{Idle, updated_idle}

fact_place : {n count : ℕ} {t : List ℕ} {p : ℕ} (f : Fact n count t p) → p ≡ place_of n f.element f.generator
unfolding place_at
fact_place f = f.stands

module _ {n N : ℕ} {o : List ℕ} {step : ℕ → ℕ → ℕ} {count lt lw : ℕ} (G : Ground n N o step count lt lw) {Live : ℕ → ℕ → Type 0} where
  -- The fact on the top is taken.
  settle_one : {held : Waiting} {p : ℕ} {fs : List ℕ} {s : State} → Machine n o step Live count lt lw held (p ∷ fs) none_in_hand s → Fact n count s.table p → Absent p fs
      → Stack n count s.table s.work (get_or s.work (p + 6) 0) fs → Idle n o step Live count lt lw (updated n p (state s.table s.work (get_or s.work (p + 6) 0)))
  settle_one {held} {p} {fs} {s} M f out st =
      subst
      (λ (x : ℕ). Machine n o step Live count lt lw held (x ∷ fs) none_in_hand s → Absent x fs → Stack n count s.table s.work (get_or s.work (x + 6) 0) fs
      → Idle n o step Live count lt lw (updated n x (state s.table s.work (get_or s.work (x + 6) 0)))) (sym (fact_place f))
      (λ M out st. updated_idle G f.element_below f.generator_below M f.known out st) M out st

  settle_stop : (k : ℕ) {s : State} → s.top ≡ 0 → Idle n o step Live count lt lw s → Idle n o step Live count lt lw (settle_from (suc k) n s)
  unfolding settle_from
  settle_stop k z K = simp (eq-eqb _ _ z) K

  settle_next : (k : ℕ) {p : ℕ} (s : State) → s.top ≡ suc p → Idle n o step Live count lt lw (settle_from k n (updated n p (state s.table s.work (get_or s.work (p + 6) 0))))
      → Idle n o step Live count lt lw (settle_from (suc k) n s)
  unfolding settle_from
  settle_next k {p} s q K =
      let d : s.top ≡ 0 → ⊥ = omega arith in
      let at : s.top - 1 ≡ p = omega arith in
      simp (ne_eqb _ _ d) (rw at K)

  settle_by : (k : ℕ) → ((s : State) → Idle n o step Live count lt lw s → Idle n o step Live count lt lw (settle_from k n s)) → {s : State} {held : Waiting} {fs : List ℕ}
      → Machine n o step Live count lt lw held fs none_in_hand s → Stack n count s.table s.work s.top fs → Idle n o step Live count lt lw (settle_from (suc k) n s)
  settle_by k ih {held = held} M (bottom z) = settle_stop k z (record { held = held; facts = []; machine = M })
  settle_by k ih {s} M (above q f out st) = settle_next k s q (ih _ (settle_one M f out st))

  pub settle_idle : (k : ℕ) (s : State) → Idle n o step Live count lt lw s → Idle n o step Live count lt lw (settle_from k n s)
  unfolding settle_from
  settle_idle zero s K = K
  settle_idle (suc k) s K = settle_by k (settle_idle k) K.machine K.machine.stack

-- Where the stack is empty, the machine is closed.
no_facts : {n count : ℕ} {t w : List ℕ} {top : ℕ} {fs : List ℕ} → Stack n count t w top fs → top ≡ 0 → fs ≡ []
no_facts (bottom z) q = refl
no_facts (above q f out st) z = absurd (omega arith)

pub idle_closed : {n : ℕ} {o : List ℕ} {step : ℕ → ℕ → ℕ} {Live : ℕ → ℕ → Type 0} {count lt lw : ℕ} {s : State} → Idle n o step Live count lt lw s → s.top ≡ 0
    → Closed n o step Live count lt lw s.table s.work
idle_closed {n} {o} {step} {Live} {count} {lt} {lw} {s} K q =
    record {
      held = K.held;
      machine = subst (λ (x : ℕ). Machine n o step Live count lt lw K.held [] none_in_hand (state s.table s.work x)) q
          (subst (λ (fs : List ℕ). Machine n o step Live count lt lw K.held fs none_in_hand s) (no_facts K.machine.stack q) K.machine);
    }
