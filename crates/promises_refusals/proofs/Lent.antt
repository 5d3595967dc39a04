-- The same of any call that puts such a build back into the buffers that its stretches were lent from, whatever its source of numbers; and what it is for
-- these to be long enough.
use Prim.Native.Nat.{ℕ, ◌+◌, ◌*◌, ◌≤◌}
use mathlib.Core.Path.{◌≡◌, refl, sym, ap}
use mathlib.Core.Logic.{◌↔◌}
use mathlib.Core.Bool.{true}
use mathlib.Core.List.{List}
use borrow.Author.Tests.{le-leb, leb-true}
use lib.ListN.{length, replicate}
use Rattle.egg.specs.declared.Refusal.{Refusal}
use Rattle.egg.specs.Answers.{Verdict, fine}
use Rattle.std.specs.Prelude.{Ok, Err}
use Rattle.egg.specs.Factor.{has_room}
use Rattle.egg.proofs.Rooms.{positive, limited, within_length}
use Rattle.egg.proofs.Scans.{refused_fine}
use Rattle.build_lending.specs.Finish.{Built, built, finished_placed}
use Rattle.build_lending.specs.Lending.{work_need, lent_right, lent_back}
use Rattle.build_lending.proofs.Lending.{lent_table_lem, lent_enough}
use Rattle.build_reading.specs.Reading.{read_all}
use Rattle.build_laws.specs.Taken.{Taken}
use Rattle.build_laws.proofs.Built.{built_holds, taken_built}
use Rattle.promises_refusals.specs.Faults.{Fault}
use Rattle.promises_refusals.specs.Papers.{answer_of, EnoughLent}
use Rattle.promises_refusals.proofs.Built.{built_fault, fault_built}

-- The test for 4, and what it says.
module _ (table : List ℕ) (start : ℕ) (work : List ℕ) (n room : ℕ) where
  pub enough_right : n ≤ 8 → EnoughLent table start work n room → lent_right (length table) start (length work) room n ≡ true
  unfolding lent_right has_room
  enough_right hn E =
      simp (le-leb _ _ hn, le-leb _ _ E.some_room, le-leb _ _ E.most_room, le-leb _ _ E.table_long, le-leb _ _ E.work_long)

  pub right_enough : lent_right (length table) start (length work) room n ≡ true → EnoughLent table start work n room
  right_enough l =
      let r = lent_table_lem (length table) start (length work) room n l in
      record {
        some_room = positive (length table) start room n r;
        most_room = limited (length table) start room n r;
        table_long = within_length (length table) start room n r;
        work_long = leb-true _ _ (lent_enough (length table) start (length work) room n l);
      }

pub same_verdict : {r s : Refusal} → ◌≡◌ {A = Verdict} (Err r) (Err s) → r ≡ s
same_verdict h = cc

-- What the call answers is what the build came to.
module _ (table : List ℕ) (start : ℕ) (work : List ℕ) (n room : ℕ) where
  answer_refused : (b : Built) {r : Refusal} → answer_of (lent_back table start work n room b) ≡ Err r
      → (t : List ℕ) × (w : List ℕ) × (b ≡ built (Err r) t w)
  answer_refused (built (Ok N) t w) h = absurd (refused_fine (sym h))
  answer_refused (built (Err s) t w) h = (t, w, ap (λ (x : Refusal). built (Err x) t w) (same_verdict h))

  answer_fine : (b : Built) → answer_of (lent_back table start work n room b) ≡ fine → (N : ℕ) × (t : List ℕ) × (w : List ℕ) × (b ≡ built (Ok N) t w)
  answer_fine (built (Ok N) t w) h = (N, t, w, refl)
  answer_fine (built (Err s) t w) h = absurd (refused_fine h)

module _ (table : List ℕ) (start : ℕ) (work : List ℕ) (src : ℕ → ℕ → ℕ) (n room size : ℕ) (w : List ℕ) (few : n ≤ 8) (lo : 1 ≤ room) (hi : room ≤ 65535)
    (fits : room * (2 * n + 4) ≤ size) (enough : work_need n room ≤ length w) where
  pub lent_refused : (r : Refusal)
      → answer_of (lent_back table start work n room (finished_placed (read_all src n room (replicate size 0)) n w)) ≡ Err r ↔ Fault src n room r
  lent_refused r = (
    λ h. built_fault src n room size w few lo hi fits enough (answer_refused table start work n room _ h).2,
    λ F. let b = fault_built src n room size w few lo hi fits enough F in rw b.2,
  )

  pub lent_accepted : answer_of (lent_back table start work n room (finished_placed (read_all src n room (replicate size 0)) n w)) ≡ fine
      ↔ ((N : ℕ) × Taken src n room N)
  lent_accepted = (
    λ h. let b = answer_fine table start work n room _ h in (b.0, (built_holds src n room size w few lo hi fits enough b.3).taken),
    λ G. let b = taken_built src n room size w few lo hi fits enough G.1 in rw b.2,
  )
