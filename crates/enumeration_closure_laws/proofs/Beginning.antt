-- The machine at the start of a run is `Closed`: there is only the identity, nothing is known, and its rows are open.
use Prim.Native.Nat.{ℕ, ◌+◌, ◌<◌, ◌≤◌}
use mathlib.Core.Path.{◌≡◌, refl, sym, ◌∙◌}
use mathlib.Core.Logic.{inr}
use mathlib.Core.List.{List, []}
use native.Mathlib.Omega.{arith}
use lib.ListN.{length, replicate, length-replicate}
use Rattle.egg.specs.Table.{start_of}
use Rattle.enumeration_rows.specs.declared.inner.SideOfGap.{SideOfGap}
use Rattle.enumeration_rows.specs.Rows.{added_rows}
use Rattle.enumeration_run.specs.Limits.{Limits}
use Rattle.enumeration_run_laws.specs.Invariant.{StepKnown}
use Rattle.enumeration_run_laws.specs.Stack.{bottom}
use Rattle.enumeration_run_laws.proofs.Running.{zeros}
use Rattle.enumeration_loop_laws.specs.Rings.{first_of_pair, second_of_pair, Looped}
use Rattle.enumeration_closure_laws.specs.Queues.{Waiting, RowsAdded}
use Rattle.enumeration_closure_laws.specs.Closure.{Rowed, Open, none_in_hand, Closed}
use Rattle.enumeration_closure_laws.proofs.BeginningLists.{begins}
use Rattle.enumeration_closure_laws.proofs.Ground.{Ground, ground, sized}
use Rattle.enumeration_closure_laws.proofs.NewRows.{new_rowed, new_open}

module _ {n N : ℕ} {o : List ℕ} {room lt lw : ℕ} {step : ℕ → ℕ → ℕ} (L : Limits n o room lt lw) (looped : Looped n N o step) (some : 1 ≤ N) where
  G : Ground n N o step 1 lt lw
  G = ground L looped 1 some L.some

  -- Before there is an element, nothing waits.
  abbrev nothing : Waiting
  nothing sd x h = []

  abbrev begun : List ℕ
  begun = added_rows (replicate lw 0) o n (record { 0 = 0 })

  B : RowsAdded n 0 (length o) o (replicate lw 0) begun nothing
  B = begins {count = 0} (sized G (replicate lw 0) (length-replicate lw 0)) G.full G.orders (record { queue = λ sd x h hx hh. absurd (omega arith) }) (λ i h. zeros lw i)

  unknown : (x h : ℕ) → StepKnown n (replicate lt 0) x h → ⊥
  unknown x h z = z (zeros lt (start_of n x + h))

  first_rowed : (u k : ℕ) (sd : SideOfGap) → u < 1 → k < length o → Rowed 1 step o (replicate lt 0) begun n u k sd
  first_rowed u k sd hu hk = let q : u ≡ 0 = omega arith in rw q (new_rowed 0 G k hk sd (B.stored k sd hk))

  first_open : (u k : ℕ) → u < 1 → k < length o → Open n step (replicate lt 0) begun B.held' [] none_in_hand u k
  first_open u k hu hk =
      let q : u ≡ 0 = omega arith in
      rw q (new_open 0 G k hk (λ sd. B.stored k sd hk) (B.left k hk) (B.right k hk) (unknown 0 (first_of_pair k)) (unknown 0 (second_of_pair k)))

  pub first_closed : {Live : ℕ → ℕ → Type 0} → Closed n o step Live 1 lt lw (replicate lt 0) (added_rows (replicate lw 0) o n (record { 0 = 0 }))
  first_closed = record {
    held = B.held';
    machine = record {
      told = record {
        succ = λ e g hg z. absurd (unknown e g z);
        from_below = λ e g hg z. absurd (unknown e g z);
        to_below = λ e g hg z. absurd (unknown e g z);
        both = λ e g hg z. absurd (unknown e g z);
        back = λ e g hg. zeros lt (start_of n e + (n + g)) ∙ sym (zeros lt (start_of n e + g));
      };
      stack = bottom refl;
      queues = B.queues;
      rows = first_rowed;
      live = λ u k hu hk v. inr (first_open u k hu hk);
      blank = λ i h. B.beyond.beyond i h ∙ zeros lw i;
      table_length = length-replicate lt 0;
      work_length = B.beyond.long ∙ length-replicate lw 0;
    };
  }
