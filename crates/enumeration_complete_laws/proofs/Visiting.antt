-- One place that 000's run visits beside the table: a step that is not known leads to the next element of the numbering, which is made.
use Prim.Native.Nat.{ℕ, suc, ◌+◌, ◌*◌, ◌<◌, ◌≤◌}
use mathlib.Core.Path.{◌≡◌, refl, ◌∙◌}
use mathlib.Core.List.{List}
use native.Mathlib.Nat.{mul-le-mul_right}
use native.Mathlib.Decide.{dec_lt, ℕ_discrete}
use native.Mathlib.Omega.{arith}
use borrow.Author.Tests.{eq-eqb, lt-leb, le-leb}
use lib.ListN.{get_or, length}
use Rattle.egg.specs.declared.GroupElementId.{GroupElementId}
use Rattle.egg.specs.declared.GeneratorId.{GeneratorId}
use Rattle.egg.specs.declared.Refusal.{Refusal}
use Rattle.std.specs.Prelude.{Ok, Err}
use Rattle.egg.specs.Table.{start_of, length_of}
use Rattle.build_reading.specs.Build.{set_step, set_word, adds}
use Rattle.egg.specs.Answers.{numbered}
use Rattle.enumeration_wake.specs.Waking.{State}
use Rattle.enumeration_run.specs.Run.{visit, visits}
use Rattle.theory.specs.Appearance.{First, last_of_lem}
use Rattle.theory.specs.Numbering as rule
use Rattle.theory.specs.Presentation.{order_of}
use Rattle.theory.proofs.Counting.{new_first}
use Rattle.theory.proofs.FirstPlaces.{last_found}
use Rattle.theory.proofs.RuleLaws.{count_within, step_within}
use Rattle.build_reading_laws.specs.Read.{Stops, no_room, long_word}
use Rattle.enumeration_run_laws.specs.Invariant.{StepKnown}
use Rattle.enumeration_run.specs.Limits.{Limits}
use Rattle.enumeration_run_laws.specs.Going.{Going}
use Rattle.enumeration_run_laws.proofs.Running.{pairs_full}
use Rattle.enumeration_run_laws.proofs.Settled.{discovered_empty}
use Rattle.enumeration_loop_laws.specs.Rings.{first_of_pair, second_of_pair}
use Rattle.enumeration_loop_laws.proofs.Stepping.{stepped}
use Rattle.enumeration_closure_laws.specs.Closure.{Closed}
use Rattle.enumeration_closure_laws.proofs.Discovering.{discovers}
use Rattle.enumeration_quick_laws.specs.Sweeping.{Live}
use Rattle.enumeration_quick_laws.proofs.Alike.{set_rest}
use Rattle.enumeration_quick_laws.proofs.Lasting.{Lasting, discovered_lasts}
use Rattle.enumeration_quick_laws.proofs.Placing.{skips}
use Rattle.enumeration_quick_laws.proofs.Adding.{after, makes}
use Rattle.theory_coxeter.specs.Tables.{PresentedTable, ExactWords}
use Rattle.theory_coxeter.proofs.Tables.{table}
use Rattle.enumeration_complete_laws.specs.Ends.{TableWords}
use Rattle.enumeration_complete_laws.proofs.GroupTable.{looped}
use Rattle.enumeration_complete_laws.proofs.Words.{WordsKept, words_kept, words_new}
use Rattle.enumeration_complete_laws.proofs.OldSteps.{old_known}

module _ (n : ℕ) (o : List ℕ) (room c : ℕ) (e : GroupElementId) (g : GeneratorId) (t w : List ℕ) where
  -- Where there is no room, it is refused by 5; where the word would be too long, by 6.
  no_more : get_or t (start_of n e.0 + g.0) 0 ≡ 0 → room ≤ c → visits n o room c e g t w ≡ visit (Err (numbered 5 e.0 g.0 0)) t w
  unfolding visits adds
  no_more z h = simp (eq-eqb _ _ z, le-leb _ _ h)

  too_long_lem : get_or t (start_of n e.0 + g.0) 0 ≡ 0 → c < room → 4096 ≤ length_of t n e.0
      → visits n o room c e g t w ≡ visit (Err (numbered 6 e.0 g.0 0)) t w
  unfolding visits adds
  too_long_lem z h long = simp (eq-eqb _ _ z, lt-leb _ _ h, le-leb _ _ long)

-- What a visit comes to.
pub record Came (n : ℕ) (o : List ℕ) (step : ℕ → ℕ → ℕ) (room lt lw x g c : ℕ) (t w : List ℕ) : Type 0 where
  pub count : ℕ
  pub table : List ℕ
  pub work : List ℕ
  pub is : visits n o room c (record { 0 = x }) (record { 0 = g }) t w ≡ visit (Ok count) table work
  pub closed : Closed n o step (Live (last_of_lem n step)) count lt lw table work
  pub rule : rule.Known n step x (suc g) count
  pub words : TableWords n step count table

-- A visit goes on, or it is refused as the reading of the table is.
pub data Met (n : ℕ) (o : List ℕ) (step : ℕ → ℕ → ℕ) (room lt lw x g c : ℕ) (t w : List ℕ) : Type 0 where
  goes : Came n o step room lt lw x g c t w → Met n o step room lt lw x g c t w
  stops : {r : Refusal} → visits n o room c (record { 0 = x }) (record { 0 = g }) t w ≡ visit (Err r) t w → Stops step n room x g c r
      → Met n o step room lt lw x g c t w

module _ {n N : ℕ} (o : List ℕ) {room lt lw : ℕ} (L : Limits n o room lt lw) {step : ℕ → ℕ → ℕ} (P : PresentedTable n N (order_of o) step) (X : ExactWords n (order_of o)) where
  module _ {x g c : ℕ} {t w : List ℕ} (I : Going n o room lt lw x g c t w) (C : Closed n o step (Live (last_of_lem n step)) c lt lw t w) (K : rule.Known n step x g c) (W : TableWords n step c t)
      (hx : x < c) (hg : g < n) where
    abbrev e : GroupElementId
    e = record { 0 = x }

    abbrev γ : GeneratorId
    γ = record { 0 = g }

    within : c ≤ N
    within = count_within P.numbered K

    came_known : StepKnown n t x g → Came n o step room lt lw x g c t w
    came_known d = record {
      count = c;
      table = t;
      work = w;
      is = skips n o room c x g t w d;
      closed = C;
      rule = rule.old K hg (C.machine.told.to_below x g hg d);
      words = W;
    }

    module _ (new : get_or t (start_of n x + g) 0 ≡ 0) where
      leads : step x g ≡ c
      leads = by (dec_lt (step x g) c) where
        by : Dec (step x g < c) → step x g ≡ c
        by (yes l) = absurd (old_known o L.few (pairs_full L) (λ k hk. (L.orders k hk).0) P X C hx hg within I.seen K l new)
        by (no l) = omega (arith, step_within P.numbered K hg)

      below : c < N
      below = rw leads at ((table P).closed {e = x} {g = g} (omega (arith, within)) hg)

      module _ (in-room : c < room) (small : length_of t n x < 4096) where
        abbrev len' : ℕ
        len' = length_of t n x + 1

        F : First n step c x g
        F = new_first K hg leads

        fresh : (k : ℕ) → k < length o → Live (last_of_lem n step) c k → (g ≡ first_of_pair k → ⊥) × (g ≡ second_of_pair k → ⊥)
        fresh k hk live = let l = live (omega arith) in (λ z. l.0 (last_found F ∙ z), λ z. l.1 (last_found F ∙ z))

        abbrev s : State
        s = after n o room c e γ t w len'

        lasts : Lasting n (stepped t n c e γ len') s.table
        lasts = discovered_lasts L I.run e γ hx hg in-room len'

        -- The words' cells of a row are as they were written.
        written : WordsKept n (set_word t n (record { 0 = c }) e γ len') s.table
        written = record {
          rest = λ y k low high.
              let words = set_word t n (record { 0 = c }) e γ len' in
              lasts.rest y k low high ∙ set_rest n (set_step words n e γ (record { 0 = c })) (record { 0 = c }) γ e hg y k low high
              ∙ set_rest n words e γ (record { 0 = c }) hg y k low high;
        }

        row_fits : start_of n c + (2 * n + 4) ≤ length t
        unfolding start_of
        row_fits = rw I.run.table_length (omega (arith, L.table_room, mul-le-mul_right (2 * n + 4) in-room))

        words : TableWords n step (c + 1) s.table
        words = words_kept written (words_new W K hx hg leads L.few (omega (arith, L.limit)) row_fits small)

        came_new : Came n o step room lt lw x g c t w
        came_new =
            let i : suc c ≡ c + 1 = omega arith in
            record {
              count = c + 1;
              table = s.table;
              work = s.work;
              is = makes n o room c e γ t w len' new in-room small refl;
              closed = discovers L (looped o L.few (pairs_full L) P) C in-room below x g hx hg leads fresh len' (discovered_empty L I.run e γ hx hg in-room len');
              rule = rw i at (rule.new K hg leads);
              words = words;
            }

      -- It is made, or it is refused by 5 or 6.
      met_new : Met n o step room lt lw x g c t w
      met_new = by (dec_lt c room) (dec_lt (length_of t n x) 4096) where
        by : Dec (c < room) → Dec (length_of t n x < 4096) → Met n o step room lt lw x g c t w
        by (yes r) (yes s) = goes (came_new r s)
        by (yes r) (no s) = stops (too_long_lem n o room c e γ t w new r (omega arith)) (long_word leads r (omega (arith, W.letters x hx, I.short x hx)))
        by (no r) s = stops (no_more n o room c e γ t w new (omega arith)) (no_room leads (omega (arith, I.run.fits)))

    pub met : Met n o step room lt lw x g c t w
    met = by (ℕ_discrete (get_or t (start_of n x + g) 0) 0) where
      by : Dec (get_or t (start_of n x + g) 0 ≡ 0) → Met n o step room lt lw x g c t w
      by (yes z) = met_new z
      by (no d) = goes (came_known d)
