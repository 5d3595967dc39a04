-- Each visit of a run goes on from what has been done, so a run that is done has visited every place, and one that is refused has met 5 or 6.
use Prim.Native.Nat.{ℕ, zero, suc, ◌+◌, ◌*◌, ◌-◌, ◌<◌, ◌≤◌}
use mathlib.Core.Path.{◌≡◌, refl, sym, ap, ◌∙◌, subst}
use mathlib.Core.Logic.{⊎_elim}
use mathlib.Core.Bool.{Bool, true, false}
use mathlib.Core.List.{List, [], ◌∷◌, ◌++◌}
use native.Mathlib.Nat.{mul-le-mul_right}
use native.Mathlib.Omega.{arith}
use borrow.Author.Tests.{ltb-true, ltb-false, leb-true, leb-false, eqb-true, eqb-false}
use lib.ListN.{get_or, length, length-append, replicate}
use lib.Dec.{eqb, ltb, leb}
use Rattle.theory.specs.Presentation.{order_of}
use Rattle.theory.specs.Appearance.{Ahead, row}
use Rattle.theory.proofs.BoundedTests.{below_suc}
use Rattle.theory.proofs.Places.{nothing_ahead, ahead_column, ahead_row}
use Rattle.egg.specs.declared.GroupElementId.{GroupElementId}
use Rattle.egg.specs.declared.GeneratorId.{GeneratorId}
use Rattle.egg.specs.Answers.{Counted, numbered}
use Rattle.std.specs.Prelude.{Ok, Err}
use Rattle.egg.specs.declared.Refusal.{Refusal}
use Rattle.egg.specs.Table.{pick, put_at, start_of, succ_at, length_of}
use Rattle.build_reading.specs.Build.{is_new, set_step, adds}
use Rattle.enumeration_rows.specs.Rows.{place_at, added_rows}
use Rattle.enumeration_wake.specs.Waking.{State, state, link, below_at}
use Rattle.enumeration_facts.specs.Facts.{settle_from}
use Rattle.enumeration_run.specs.Run.{discovered, Visit, visit, after_adding, visits, advanced, RunResult, outcome, on_visit, after, runs, start_of_run, enumerated}
use Rattle.enumeration_run.specs.declared.inner.Run.{Run}
use Rattle.enumeration_run.specs.declared.inner.Ran.{Ran}
use Rattle.enumeration_run.specs.declared.inner.Ran.TheVariants as ran
use Rattle.enumeration_run.specs.Limits.{Limits}
use Rattle.enumeration_run_laws.specs.Invariant.{StepKnown}
use Rattle.enumeration_run_laws.proofs.Visiting.{next}
use Rattle.enumeration_run_laws.proofs.Knowing.{set_more, set_known}
use Rattle.enumeration_run_laws.proofs.Growing.{written, word_length, extended_old, extended_new, grown_words}
use Rattle.enumeration_run_laws.proofs.Settling.{settle_ok}
use Rattle.enumeration_run_laws.proofs.Running.{zeros, new_work, new_state, first_ok}
use Rattle.egg.proofs.Cells.{inside}
use Rattle.theory.specs.Past.{Past, start, old, new, next_row}
use Rattle.enumeration_run_laws.specs.Going.{Going, Finished, Broken, no_room, long_word}
use Rattle.theory.proofs.Pasts.{past_agree}
use Rattle.enumeration_run_laws.proofs.Keeping.{settle_keeps}
use Rattle.enumeration_run_laws.proofs.Since.{Since, since_twice, since_both, word_step, word_old, word_new}

-- Where no element is left, the last row has been visited.
past_ends : {n : ℕ} {m : ℕ → ℕ → ℕ} {word : ℕ → List ℕ} {x g c : ℕ} → Past n m word x g c → c ≤ x → (y : ℕ) × (y + 1 ≡ c) × Past n m word y n c
past_ends start h = absurd (omega arith)
past_ends (old r p hx _ _ _) h = absurd (omega arith)
past_ends (new p hx _ _) h = absurd (omega arith)
past_ends (next_row {x} p hx) h = (x, omega arith, p)

module _ {n : ℕ} {o : List ℕ} {room lt lw : ℕ} (L : Limits n o room lt lw) where
  -- After a visit: the next column of the same row.
  abbrev pub Visited : ℕ → ℕ → Counted → List ℕ → List ℕ → Type 1
  Visited x g (Ok c) t w = (x < c) × Going n o room lt lw x (g + 1) c t w
  Visited x g (Err r) t w = Broken n o room lt lw t w r

  abbrev pub VisitedBy : ℕ → ℕ → Visit → Type 1
  VisitedBy x g v = Visited x g v.answer v.table v.work

  module _ {x g c : ℕ} {t w : List ℕ} (G : Going n o room lt lw x g c t w) (hx : x < c) (hg : g < n) where
    abbrev e : GroupElementId
    e = record { 0 = x }

    abbrev γ : GeneratorId
    γ = record { 0 = g }

    abbrev made : GroupElementId
    made = record { 0 = c }

    abbrev word : ℕ → List ℕ
    word = G.run.word

    -- What was visited, with the place itself.
    and_here : (t' : List ℕ) → ((y h : ℕ) → h < n → StepKnown n t y h → StepKnown n t' y h) → StepKnown n t' x g
        → (y h : ℕ) → h < n → Ahead y h x (g + 1) → StepKnown n t' y h
    and_here t' kept here y h hh a =
        let i : g + 1 ≡ suc g = omega arith in
        let b : Ahead y h x (suc g) = rw i at a in
        ⊎_elim (λ q. rw (q.0, q.1) here) (λ b. kept y h hh (G.seen y h hh b)) (ahead_column b)

    known_going : (get_or t (start_of n x + g) 0 ≡ 0 → ⊥) → Going n o room lt lw x (g + 1) c t w
    known_going d =
        let s = (G.run.table.marks (start_of n x + g)).succ x g (get_or t (start_of n x + g) 0 - 1) hg refl (omega arith) in
        record {
          run = G.run;
          past = old (get_or t (start_of n x + g) 0 - 1) G.past hx hg s.to_below s.leads;
          seen = and_here t (λ y h hh k. k) d;
          backs = G.backs;
          letters = G.letters;
          short = G.short;
        }

    module _ (h : c < room) (len : ℕ) where
      row_fits : start_of n c + (2 * n + 4) ≤ lt
      unfolding start_of
      row_fits = omega (arith, L.table_room, mul-le-mul_right (2 * n + 4) h)

      place_fits : succ_at n e γ < length (written t n c e γ len)
      unfolding start_of
      place_fits =
          let low : g < 2 * n + 4 = omega arith in
          rw (word_length t n c e γ len, G.run.table_length) (omega (arith, inside hx low, row_fits))

      abbrev stepped : List ℕ
      stepped = set_step (set_step (written t n c e γ len) n e γ made) n made γ e

      rows_fit : (c + 1) * (2 * n + 4) ≤ lt
      rows_fit = omega (arith, L.table_room, mul-le-mul_right (2 * n + 4) h)

      -- The word is written; then the step is set both ways.
      since_written : Since n (written t n c e γ len) (written t n c e γ len)
      since_written = record {
        more = λ y k hk d. d;
        backs = λ y k hk d.
            let a = word_step n t c e γ len y k (omega arith) in
            let b = word_step n t c e γ len y (n + k) (omega arith) in
            rw b (G.backs y k hk (rw a at d));
        lengths = λ y. refl;
      }

      since_stepped : Since n (written t n c e γ len) stepped
      since_stepped =
          since_twice (omega (arith, L.limit)) rows_fit (written t n c e γ len) (written t n c e γ len) e γ made
          (word_length t n c e γ len ∙ G.run.table_length) (omega arith) hg (omega arith) since_written

      new_known : StepKnown n stepped x g
      new_known =
          set_more n (set_step (written t n c e γ len) n e γ made) made γ e x g hg
          (set_known n (written t n c e γ len) e γ made place_fits (omega (arith, L.limit)))

      new_letters : length_of t n x + 1 ≡ length (word x ++ g ∷ [])
      new_letters = omega (arith, G.letters x hx, length-append (word x) (g ∷ []))

      -- The new word's length is as given, and the others' are as they were.
      written_short : len ≤ 4096 → (y : ℕ) → y < c + 1 → length_of (written t n c e γ len) n y ≤ 4096
      written_short short y hy = ⊎_elim
          (λ q. rw (q, word_new n t c e γ len (rw G.run.table_length row_fits) (omega arith)) short)
          (λ b. let d : y ≡ c → ⊥ = omega arith in rw (word_old n t c e γ len y d) (G.short y b))
          (below_suc (omega arith))

      written_letters : len ≡ length_of t n x + 1 → len < 4294967296 → (y : ℕ) → y < c + 1 → length_of (written t n c e γ len) n y ≡ length (grown_words word c e γ y)
      written_letters is small y hy = ⊎_elim
          (λ q. rw q (word_new n t c e γ len (rw G.run.table_length row_fits) small ∙ is ∙ new_letters ∙ ap length (sym (extended_new word c (word x ++ g ∷ [])))))
          (λ b. let d : y ≡ c → ⊥ = omega arith in word_old n t c e γ len y d ∙ G.letters y b ∙ ap length (sym (extended_old word c (word x ++ g ∷ []) y b)))
          (below_suc (omega arith))

      new_going : len ≡ length_of t n x + 1 → len ≤ 4096 → let s = discovered n o e γ made (set_step (written t n c e γ len) n e γ made) w in Going n o room lt lw x (g + 1) (c + 1) s.table s.work
      unfolding discovered
      new_going is short =
          let from : State = state stepped (put_at (added_rows w o n made) (below_at (place_at n e γ)) 0) (link n e γ) in
          let I = new_state L G.run e γ hx hg h len in
          let s = settle_ok L.few (omega arith) (length from.work) I in
          let now : Since n stepped stepped = record { more = λ y k hk d. d; backs = since_stepped.backs; lengths = λ y. refl } in
          let m = settle_keeps L.few (omega arith) (Since n stepped) (since_both (omega (arith, L.limit)) rows_fit stepped) (length from.work) I now in
          let agree = extended_old word c (word x ++ g ∷ []) in
          record {
            run = record {
              word = grown_words word c e γ;
              table = s.table;
              made = s.made;
              work = record { begun = (new_work L G.run e γ hx hg h).begun; right = s.work };
              some = omega arith;
              fits = omega arith;
              table_length = s.table_length;
              work_length = s.work_length;
            };
            past = new (past_agree G.past agree) hx hg (extended_new word c (word x ++ g ∷ []) ∙ ap (λ (u : List ℕ). u ++ g ∷ []) (sym (agree x hx)));
            seen = and_here (settle_from (length from.work) n from).table
                (λ y k hk d. m.more y k hk (since_stepped.more y k hk (rw (word_step n t c e γ len y k (omega arith)) d))) (m.more x g hg new_known);
            backs = m.backs;
            letters = λ y hy. m.lengths y ∙ since_stepped.lengths y ∙ written_letters is (omega arith) y hy;
            short = λ y hy. rw (m.lengths y, since_stepped.lengths y) (written_short short y hy);
          }

    adding : get_or t (start_of n x + g) 0 ≡ 0 → (full long : Bool) → leb room c ≡ full → leb 4096 (length_of t n x) ≡ long
        → VisitedBy x g (after_adding
        (pick full (record { answer = Err (numbered 5 x g 0); table = t })
        (pick long (record { answer = Err (numbered 6 x g 0); table = t })
        (record { answer = Ok made; table = set_step (written t n c e γ (length_of t n x + 1)) n e γ made })))
        (λ made t₁. visit (Ok (c + 1)) (discovered n o e γ made t₁ w).table (discovered n o e γ made t₁ w).work) (λ why t₁. visit (Err why) t₁ w))
    adding z true long q k =
        let i : c ≡ room = omega (arith, leb-true room c q, G.run.fits) in
        no_room x g (omega arith) hg (subst (λ (c : ℕ). Going n o room lt lw x g c t w) i G) z
    adding z false true q k =
        long_word x g c hx hg (leb-false room c q) G z (omega (arith, leb-true 4096 (length_of t n x) k, G.letters x hx, G.short x hx))
    adding z false false q k = (omega arith, new_going (leb-false room c q) (length_of t n x + 1) refl (omega (arith, leb-false 4096 (length_of t n x) k)))

    pub visited : VisitedBy x g (visits n o room c e γ t w)
    unfolding visits adds
    visited = by (is_new t n e γ) refl where
      by : (b : Bool) → is_new t n e γ ≡ b
          → VisitedBy x g (pick b
          (after_adding (adds t n room c e γ)
          (λ made t₁. visit (Ok (c + 1)) (discovered n o e γ made t₁ w).table (discovered n o e γ made t₁ w).work) (λ why t₁. visit (Err why) t₁ w))
          (visit (Ok c) t w))
      by true q = adding (eqb-true _ _ q) (leb room c) (leb 4096 (length_of t n x)) refl refl
      by false q = (hx, known_going (eqb-false _ _ q))

  -- The next place, or the next row.
  pub goes_on : (at : Run) (c : ℕ) {t w : List ℕ} → at.generator < n → at.element < c → Going n o room lt lw at.element (at.generator + 1) c t w
      → let a = advanced n at c in Going n o room lt lw a.element a.generator a.count t w
  unfolding advanced
  goes_on at c {t} {w} hg hx G = by (ltb (at.generator + 1) n) refl where
    by : (b : Bool) → ltb (at.generator + 1) n ≡ b
        → let a = pick {A = Run} b (record { element = at.element; generator = at.generator + 1; count = c }) (record { element = at.element + 1; generator = 0; count = c }) in
        Going n o room lt lw a.element a.generator a.count t w
    by true q = G
    by false q =
        let i : at.generator + 1 ≡ n = omega (arith, ltb-false (at.generator + 1) n q) in
        record {
          run = G.run;
          past = next_row (rw i at G.past) hx;
          seen = λ y h hh a.
              let j : at.element + 1 ≡ suc at.element = omega arith in
              let b : Ahead y h (suc at.element) 0 = rw j at a in
              let d : Ahead y h at.element n = ahead_row hh b in
              G.seen y h hh (rw (sym i) at d);
          backs = G.backs;
          letters = G.letters;
          short = G.short;
        }

  -- Where no element is left, every place is visited.
  pub finishes : {x g c : ℕ} {t w : List ℕ} → c ≤ x → Going n o room lt lw x g c t w → Finished n o room lt lw c t w
  finishes {x} {g} {c} h G =
      let f = past_ends G.past h in
      record {
        run = G.run;
        end = f.0;
        last_row = f.1;
        past = f.2;
        seen = λ e k he hk. G.seen e k hk (row (omega arith));
        backs = λ e k he hk. G.backs e k hk (G.seen e k hk (row (omega arith)));
        letters = G.letters;
        short = G.short;
      }

  -- How a run ends.
  abbrev pub Ended : Ran → List ℕ → List ℕ → Type 1
  Ended (ran.Done c) t w = Finished n o room lt lw c t w
  Ended (ran.Paused at) t w = Unit {1}
  Ended (ran.Refused r) t w = Broken n o room lt lw t w r

  abbrev pub EndedBy : RunResult → Type 1
  EndedBy x = Ended x.answer x.table x.work

  pub runs_end : (k : ℕ) (at : Run) {t w : List ℕ} → at.generator < n → Going n o room lt lw at.element at.generator at.count t w → EndedBy (runs k n o room at t w)
  unfolding runs
  runs_end zero at {t} {w} hg G = by (ltb at.element at.count) refl where
    by : (b : Bool) → ltb at.element at.count ≡ b → EndedBy (pick b (outcome (ran.Paused at) t w) (outcome (ran.Done at.count) t w))
    by true q = tt
    by false q = finishes (ltb-false _ _ q) G
  runs_end (suc k) at {t} {w} hg G = by (ltb at.element at.count) refl
      (λ c t₁ w₁ hx H. runs_end k (advanced n at c) (next n at c hg).0 (goes_on at c hg hx H)) where
        Rest : Type 1
        Rest = (c : ℕ) (t₁ w₁ : List ℕ) → at.element < c → Going n o room lt lw at.element (at.generator + 1) c t₁ w₁ → EndedBy (runs k n o room (advanced n at c) t₁ w₁)

        go : Rest → (a : Counted) (t₁ w₁ : List ℕ) → Visited at.element at.generator a t₁ w₁
            → EndedBy (on_visit a t₁ w₁ (λ c t₂ w₂. runs k n o room (advanced n at c) t₂ w₂) (λ why t₂ w₂. outcome (ran.Refused why) t₂ w₂))
        go rest (Ok c) t₁ w₁ H = rest c t₁ w₁ H.0 H.1
        go rest (Err r) t₁ w₁ H = H

        here : Visit
        here = visits n o room at.count (record { 0 = at.element }) (record { 0 = at.generator }) t w

        by : (b : Bool) → ltb at.element at.count ≡ b → Rest
            → EndedBy (pick b (after here (λ c t₁ w₁. runs k n o room (advanced n at c) t₁ w₁) (λ why t₁ w₁. outcome (ran.Refused why) t₁ w₁)) (outcome (ran.Done at.count) t w))
        by true q rest = go rest here.answer here.table here.work (visited G (ltb-true _ _ q) hg)
        by false q rest = finishes (ltb-false _ _ q) G

  first_short : (e : ℕ) → e < 1 → length_of (replicate lt 0) n e ≤ 4096
  first_short e h = rw (zeros lt (start_of n e + 2 * n + 2)) (omega arith)

  first_letters : (e : ℕ) → e < 1 → length_of (replicate lt 0) n e ≡ length ((first_ok L).word e)
  first_letters e h =
      let q : e ≡ 0 = omega arith in
      zeros lt (start_of n e + 2 * n + 2) ∙ sym (ap length (ap (first_ok L).word q ∙ (first_ok L).table.words.start))

  pub first_going : Going n o room lt lw 0 0 1 (replicate lt 0) (added_rows (replicate lw 0) o n (record { 0 = 0 }))
  first_going = record {
    run = first_ok L;
    past = start;
    seen = λ y h hh a. absurd (nothing_ahead a);
    backs = λ y h hh d. absurd (d (zeros lt (start_of n y + h)));
    letters = first_letters;
    short = first_short;
  }

  pub enumerated_end : EndedBy (enumerated n o room lt lw)
  unfolding enumerated
  enumerated_end = by (eqb n 0) refl where
    by : (b : Bool) → eqb n 0 ≡ b
        → EndedBy (pick b (outcome (ran.Done 1) (replicate lt 0) (added_rows (replicate lw 0) o n (record { 0 = 0 })))
        (runs 18446744073709551615 n o room start_of_run (replicate lt 0) (added_rows (replicate lw 0) o n (record { 0 = 0 }))))
    by true q =
        let z : n ≡ 0 = eqb-true n 0 q in
        record {
          run = first_ok L;
          end = 0;
          last_row = refl;
          past = subst (λ (k : ℕ). Past n (order_of o) (first_ok L).word 0 k 1) (sym z) start;
          seen = λ e g he hg. absurd (omega arith);
          backs = λ e g he hg. absurd (omega arith);
          letters = first_letters;
          short = first_short;
        }
    by false q = let d : n ≡ 0 → ⊥ = eqb-false _ _ q in runs_end 18446744073709551615 start_of_run (omega arith) first_going

  -- A run that is done has visited every place of every element; one that is refused has met 5 or 6 and keeps both lengths.
  pub done_finished : {N : ℕ} → (enumerated n o room lt lw).answer ≡ ran.Done N → Finished n o room lt lw N (enumerated n o room lt lw).table (enumerated n o room lt lw).work
  done_finished q = subst (λ (a : Ran). Ended a (enumerated n o room lt lw).table (enumerated n o room lt lw).work) q enumerated_end

  pub refused_broken : {r : Refusal} → (enumerated n o room lt lw).answer ≡ ran.Refused r → Broken n o room lt lw (enumerated n o room lt lw).table (enumerated n o room lt lw).work r
  refused_broken q = subst (λ (a : Ran). Ended a (enumerated n o room lt lw).table (enumerated n o room lt lw).work) q enumerated_end
