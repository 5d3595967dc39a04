-- One place that the run by closed loops visits beside the table: a loop says where a step leads exactly when it leads to an element that is there.
use Prim.Native.Nat.{ℕ, zero, suc, ◌+◌, ◌*◌, ◌-◌, ◌<◌, ◌≤◌}
use mathlib.Core.Path.{◌≡◌, refl, sym, ◌∙◌}
use mathlib.Core.Logic.{⊎_elim}
use mathlib.Core.List.{List}
use native.Mathlib.Nat.{mul-le-mul_right}
use native.Mathlib.Decide.{dec_lt, ℕ_discrete}
use native.Mathlib.Omega.{arith}
use borrow.Author.Tests.{eq-eqb, ne_eqb, lt-leb, le-leb}
use lib.ListN.{get_or, length}
use Rattle.egg.specs.declared.GroupElementId.{GroupElementId}
use Rattle.egg.specs.declared.GeneratorId.{GeneratorId}
use Rattle.egg.specs.declared.Refusal.{Refusal}
use Rattle.std.specs.Prelude.{Ok, Err}
use Rattle.egg.specs.Table.{start_of, length_of}
use Rattle.build_reading.specs.Build.{set_step, set_word, adds}
use Rattle.egg.specs.Answers.{numbered}
use Rattle.enumeration_quick_loops.specs.Loops.{loop_from}
use Rattle.enumeration_quick_run.specs.Sweeps.{swept, set_both, settles, sweeps}
use Rattle.theory.specs.Appearance.{Ahead, recorded}
use Rattle.theory.specs.Numbering as rule
use Rattle.theory.specs.Presentation.{order_of}
use Rattle.theory.proofs.BoundedTests.{below_suc}
use Rattle.theory.proofs.RuleLaws.{step_within, new_letters, count_within}
use Rattle.build_reading_laws.specs.Read.{Stops, no_room, long_word}
use Rattle.enumeration_run_laws.specs.Invariant.{StepKnown}
use Rattle.enumeration_run.specs.Limits.{Limits}
use Rattle.enumeration_run_laws.proofs.Running.{pairs_full}
use Rattle.egg.proofs.Cells.{inside}
use Rattle.enumeration_run_laws.proofs.Knowing.{set_more, set_known}
use Rattle.enumeration_run_laws.proofs.Marking.{set_length}
use Rattle.enumeration_loop_laws.specs.Rings.{Looped, StepsAgree}
use Rattle.enumeration_loop_laws.proofs.Telling.{told_both, told_new}
use Rattle.enumeration_loop_laws.proofs.Stepping.{stepped, stepped_length, stepped_more, stepped_here}
use Rattle.enumeration_quick_laws.proofs.Alike.{set_rest}
use Rattle.theory_coxeter.specs.Tables.{PresentedTable, ExactWords}
use Rattle.theory_coxeter.proofs.Tables.{table, len}
use Rattle.enumeration_complete_laws.proofs.GroupTable.{looped}
use Rattle.enumeration_complete_laws.proofs.OldSteps.{AllButOne, known_or_loop}
use Rattle.enumeration_complete_laws.specs.Ends.{TableWords}
use Rattle.enumeration_complete_laws.proofs.Words.{words_kept, words_new}
use Rattle.enumeration_complete_laws.proofs.Saying.{none_says, said_right, loop_says}

-- The ways in which a visit ends.
module _ (n : ℕ) (o : List ℕ) (room c : ℕ) (e : GroupElementId) (g : GeneratorId) (q : List ℕ) where
  sweep_skips : StepKnown n q e.0 g.0 → sweeps n o room c e g q ≡ swept (Ok c) q
  unfolding sweeps
  sweep_skips d = simp (ne_eqb _ _ d)

  module _ (z : get_or q (start_of n e.0 + g.0) 0 ≡ 0) where
    sweep_loops : (r : ℕ) → loop_from n q o n e.0 g.0 0 ≡ suc r → sweeps n o room c e g q ≡ swept (Ok c) (set_both q n e g (record { 0 = r }))
    unfolding sweeps settles
    sweep_loops r l =
        let d : suc r ≡ 0 → ⊥ = omega arith in
        let i : suc r - 1 ≡ r = omega arith in
        simp (eq-eqb _ _ z, l, ne_eqb _ _ d, i)

    module _ (none : loop_from n q o n e.0 g.0 0 ≡ 0) where
      sweep_makes : (len : ℕ) → c < room → length_of q n e.0 < 4096 → len ≡ length_of q n e.0 + 1
          → sweeps n o room c e g q ≡ swept (Ok (c + 1)) (stepped q n c e g len)
      unfolding sweeps settles adds
      sweep_makes len h short i = rw i (simp (eq-eqb _ _ z, none, lt-leb _ _ h, lt-leb _ _ short))

      sweep_full : room ≤ c → sweeps n o room c e g q ≡ swept (Err (numbered 5 e.0 g.0 0)) q
      unfolding sweeps settles adds
      sweep_full h = simp (eq-eqb _ _ z, none, le-leb _ _ h)

      sweep_long : c < room → 4096 ≤ length_of q n e.0 → sweeps n o room c e g q ≡ swept (Err (numbered 6 e.0 g.0 0)) q
      unfolding sweeps settles adds
      sweep_long h long = simp (eq-eqb _ _ z, none, lt-leb _ _ h, le-leb _ _ long)

-- What a visit comes to.
pub record Moved (n : ℕ) (o : List ℕ) (step : ℕ → ℕ → ℕ) (room lt x g c : ℕ) (q : List ℕ) : Type 0 where
  pub count : ℕ
  pub table : List ℕ
  pub is : sweeps n o room c (record { 0 = x }) (record { 0 = g }) q ≡ swept (Ok count) table
  pub told : StepsAgree n count step table
  pub words : TableWords n step count table
  pub size : length table ≡ lt
  pub rule : rule.Known n step x (suc g) count
  pub within_room : count ≤ room
  pub short : (e : ℕ) → e < count → length (recorded n step e) ≤ 4096
  pub kept : (y h : ℕ) → h < n → StepKnown n q y h → StepKnown n table y h
  pub here : StepKnown n table x g

pub data Meets (n : ℕ) (o : List ℕ) (step : ℕ → ℕ → ℕ) (room lt x g c : ℕ) (q : List ℕ) : Type 0 where
  goes : Moved n o step room lt x g c q → Meets n o step room lt x g c q
  stops : {r : Refusal} → sweeps n o room c (record { 0 = x }) (record { 0 = g }) q ≡ swept (Err r) q → Stops step n room x g c r → Meets n o step room lt x g c q

module _ {n N : ℕ} (o : List ℕ) {room lt lw : ℕ} (L : Limits n o room lt lw) {step : ℕ → ℕ → ℕ} (P : PresentedTable n N (order_of o) step) (X : ExactWords n (order_of o))
    {x g c : ℕ} {q : List ℕ} (T : StepsAgree n c step q) (W : TableWords n step c q) (size : length q ≡ lt) (K : rule.Known n step x g c) (fits : c ≤ room)
    (shorts : (e : ℕ) → e < c → length (recorded n step e) ≤ 4096)
    (seen : (y h : ℕ) → h < n → Ahead y h x g → StepKnown n q y h) (hx : x < c) (hg : g < n) where
  abbrev e : GroupElementId
  e = record { 0 = x }

  abbrev γ : GeneratorId
  γ = record { 0 = g }

  within : c ≤ N
  within = count_within P.numbered K

  H : Looped n N o step
  H = looped o L.few (pairs_full L) P

  moved_known : StepKnown n q x g → Moved n o step room lt x g c q
  moved_known d = record {
    count = c;
    table = q;
    is = sweep_skips n o room c e γ q d;
    told = T;
    words = W;
    size = size;
    rule = rule.old K hg (T.to_below x g hg d);
    within_room = fits;
    short = shorts;
    kept = λ y h hh k. k;
    here = d;
  }

  module _ (new : get_or q (start_of n x + g) 0 ≡ 0) where
    room_fits : c * (2 * n + 4) ≤ length q
    room_fits = rw size (omega (arith, L.table_room, mul-le-mul_right (2 * n + 4) fits))

    place_fits : start_of n x + g < length q
    unfolding start_of
    place_fits = let low : g < 2 * n + 4 = omega arith in omega (arith, inside hx low, room_fits)

    -- A loop speaks, of an element that is there.
    moved_loop : (r : ℕ) → loop_from n q o n x g 0 ≡ suc r → Moved n o step room lt x g c q
    moved_loop r says =
        let s = said_right o L P X T W hx hg within r says in
        let to : GroupElementId = record { 0 = r } in
        let once = set_step q n e γ to in
        let leads : step x g ≡ r = sym s.0 in
        record {
          count = c;
          table = set_both q n e γ to;
          is = sweep_loops n o room c e γ q new r says;
          told = told_both T H within e γ to hx hg s.1 leads room_fits (omega (arith, L.limit));
          words = words_kept (record { rest = λ y k low high. set_rest n once to γ e hg y k low high ∙ set_rest n q e γ to hg y k low high }) W;
          size = set_length once n to γ e ∙ set_length q n e γ to ∙ size;
          rule = rule.old K hg (rw leads s.1);
          within_room = fits;
          short = shorts;
          kept = λ y h hh k. set_more n once to γ e y h hh (set_more n q e γ to y h hh k);
          here = set_more n once to γ e x g hg (set_known n q e γ to place_fits (omega (arith, s.1, L.limit)));
        }

    module _ (none : loop_from n q o n x g 0 ≡ 0) where
      leads : step x g ≡ c
      leads = by (dec_lt (step x g) c) where
        silent : AllButOne o L.few (pairs_full L) (λ k hk. (L.orders k hk).0) P X q x g → ⊥
        silent A =
            let z : 0 + A.letter ≡ A.letter = omega arith in
            loop_says o L P X T W hx hg within new A (rw z at (none_says q o n x g n 0 none A.letter A.letter_below))

        by : Dec (step x g < c) → step x g ≡ c
        by (yes l) = absurd (⊎_elim (λ k. k new) silent (known_or_loop o L.few (pairs_full L) (λ k hk. (L.orders k hk).0) P X T hx hg within seen K l))
        by (no l) = omega (arith, step_within P.numbered K hg)

      below : c < N
      below = rw leads at ((table P).closed {e = x} {g = g} (omega (arith, within)) hg)

      rows_fit : c < room → (c + 1) * (2 * n + 4) ≤ length q
      rows_fit in-room = rw size (omega (arith, L.table_room, mul-le-mul_right (2 * n + 4) in-room))

      row_fits : c < room → start_of n c + (2 * n + 4) ≤ length q
      unfolding start_of
      row_fits in-room = omega (arith, rows_fit in-room)

      moved_new : c < room → length_of q n x < 4096 → Moved n o step room lt x g c q
      moved_new in-room small =
          let len' = length_of q n x + 1 in
          let new_one : GroupElementId = record { 0 = c } in
          let words = set_word q n new_one e γ len' in
          let once = set_step words n e γ new_one in
          let i : suc c ≡ c + 1 = omega arith in
          record {
            count = c + 1;
            table = stepped q n c e γ len';
            is = sweep_makes n o room c e γ q new none len' in-room small refl;
            told = told_new T H below e γ hx hg leads len' (rows_fit in-room) (omega (arith, L.limit));
            words = words_kept (record { rest = λ y k low high. set_rest n once new_one γ e hg y k low high ∙ set_rest n words e γ new_one hg y k low high })
                (words_new W K hx hg leads L.few (omega (arith, L.limit)) (row_fits in-room) small);
            size = stepped_length q n c e γ len' ∙ size;
            rule = rw i at (rule.new K hg leads);
            within_room = omega arith;
            short = λ y hy. ⊎_elim (λ p. rw p (omega (arith, new_letters K hg leads, W.letters x hx))) (λ l. shorts y l) (below_suc (omega arith));
            kept = λ y h hh k. stepped_more q n c e γ len' y h hh k;
            here = stepped_here q n c e γ len' hx hg (rows_fit in-room) (omega (arith, L.limit));
          }

      meets_new : Meets n o step room lt x g c q
      meets_new = by (dec_lt c room) (dec_lt (length_of q n x) 4096) where
        by : Dec (c < room) → Dec (length_of q n x < 4096) → Meets n o step room lt x g c q
        by (yes r) (yes s) = goes (moved_new r s)
        by (yes r) (no s) = stops (sweep_long n o room c e γ q new none r (omega arith)) (long_word leads r (omega (arith, W.letters x hx, shorts x hx)))
        by (no r) s = stops (sweep_full n o room c e γ q new none (omega arith)) (no_room leads (omega arith))

    meets_by : (v : ℕ) → loop_from n q o n x g 0 ≡ v → Meets n o step room lt x g c q
    meets_by zero p = meets_new p
    meets_by (suc r) p = goes (moved_loop r p)

  pub meets : Meets n o step room lt x g c q
  meets = by (ℕ_discrete (get_or q (start_of n x + g) 0) 0) where
    by : Dec (get_or q (start_of n x + g) 0 ≡ 0) → Meets n o step room lt x g c q
    by (yes z) = meets_by z (loop_from n q o n x g 0) refl
    by (no d) = goes (moved_known d)
