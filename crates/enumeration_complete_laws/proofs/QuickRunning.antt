-- The run by closed loops beside the table: it is done with it, or refused where reading the table is; so its answer is that of 000's run.
use Prim.Native.Nat.{ℕ, zero, suc, ◌+◌, ◌*◌, ◌<◌, ◌≤◌}
use mathlib.Core.Path.{◌≡◌, refl, sym, ap, ◌∙◌, subst}
use mathlib.Core.Bool.{Bool, true, false}
use mathlib.Core.Logic.{◌⊎◌, inl, inr}
use mathlib.Core.List.{List}
use native.Mathlib.Nat.{mul-le-mul, mul-le-mul_right}
use native.Mathlib.Omega.{arith}
use borrow.Author.Tests.{ltb-true, ltb-false, eqb-true, eqb-false}
use lib.ListN.{length, replicate, length-replicate}
use lib.Dec.{eqb, ltb}
use Rattle.egg.specs.declared.Refusal.{Refusal}
use Rattle.egg.specs.Table.{pick, step_of, parent_of, last_of}
use Rattle.enumeration_run.specs.Run.{advanced, start_of_run}
use Rattle.enumeration_run.specs.declared.inner.Run.{Run}
use Rattle.enumeration_run.specs.declared.inner.Ran.{Ran}
use Rattle.enumeration_run.specs.declared.inner.Ran.TheVariants as ran
use Rattle.enumeration_quick_run.specs.Sweeps.{Swept, sweeps, Sweep, sweep, after_swept, sweep_from, swiftly}
use Rattle.theory.specs.Words.{Parents}
use Rattle.theory.specs.Appearance.{row, last_of_lem, recorded}
use Rattle.theory.specs.Numbering as rule
use Rattle.theory.specs.Presentation.{order_of}
use Rattle.theory.proofs.Places.{nothing_ahead}
use Rattle.theory.proofs.Recording.{parents_agree}
use Rattle.theory.proofs.Counting.{row_known}
use Rattle.build_reading_laws.specs.Read.{ReadSoFar, ReadingRefused}
use Rattle.enumeration_run_laws.specs.Invariant.{StepKnown}
use Rattle.enumeration_run.specs.Limits.{Limits}
use Rattle.enumeration_run_laws.proofs.Running.{pairs_full}
use Rattle.enumeration_run_laws.proofs.Visiting.{place, next}
use Rattle.enumeration_loop_laws.specs.Rings.{Looped, StepsAgree}
use Rattle.enumeration_closure_laws.proofs.Beginning.{first_closed}
use Rattle.enumeration_quick_laws.specs.Sweeping.{Live}
use Rattle.enumeration_quick_laws.proofs.Ahead.{AllBefore, before_next}
use Rattle.enumeration_quick_laws.proofs.Closing.{looped_agree}
use Rattle.theory_coxeter.specs.Tables.{PresentedTable, ExactWords}
use Rattle.enumeration_complete_laws.proofs.GroupTable.{looped, parents}
use Rattle.enumeration_complete_laws.specs.Ends.{TableWords, WholeTable}
use Rattle.enumeration_complete_laws.proofs.Running.{Place, at, over, all_numbered, next_place, first_words, some}
use Rattle.enumeration_complete_laws.proofs.QuickVisiting.{Meets, goes, stops, meets}

module _ {n N : ℕ} (o : List ℕ) {room lt lw : ℕ} (L : Limits n o room lt lw) {step : ℕ → ℕ → ℕ} (P : PresentedTable n N (order_of o) step) (X : ExactWords n (order_of o)) where
  -- Between two places.
  record Standing (x g c : ℕ) (q : List ℕ) : Type 0 where
    told : StepsAgree n c step q
    words : TableWords n step c q
    size : length q ≡ lt
    spot : Place n N step x g c
    seen : AllBefore n (StepKnown n q) x g
    within_room : c ≤ room
    short : (e : ℕ) → e < c → length (recorded n step e) ≤ 4096

  -- How the run ends.
  abbrev Well : Ran → List ℕ → Type 0
  Well (ran.Done c) q = (c ≡ N) × WholeTable n N step room q
  Well (ran.Paused a) q = ⊥
  Well (ran.Refused r) q = ReadingRefused step n room r

  abbrev WellBy : Sweep → Type 0
  WellBy x = Well x.answer x.table

  done : {x g c : ℕ} {q : List ℕ} → c ≤ x → Standing x g c q → (c ≡ N) × WholeTable n N step room q
  done {x} {g} {c} {q} h S = by S.spot where
    whole : c ≡ N → WholeTable n N step room q
    whole p = record {
      within_room = rw p at S.within_room;
      short = rw p at S.short;
      told = rw p at S.told;
      words = rw p at S.words;
      all = λ e g he hg. S.seen.all e g hg (row (omega arith));
    }

    by : Place n N step x g c → (c ≡ N) × WholeTable n N step room q
    by (at l K) = absurd (omega arith)
    by (over l p) = (p, whole p)

  sweeps_well : (k : ℕ) (a : Run) {q : List ℕ} → a.generator < n → room * n ≤ k + place n a → Standing a.element a.generator a.count q → WellBy (sweep_from k n o room a q)
  unfolding sweep_from
  sweeps_well zero a {q} hg fuel S = by (ltb a.element a.count) refl S.spot where
    by : (b : Bool) → ltb a.element a.count ≡ b → Place n N step a.element a.generator a.count
        → WellBy (pick {A = Sweep} b (sweep (ran.Paused a) q) (sweep (ran.Done a.count) q))
    by true p (at l K) =
        let h : a.element + 1 ≤ room = omega (arith, S.within_room) in
        absurd (omega (arith, mul-le-mul_right n h))
    by true p (over l e) = absurd (omega (arith, ltb-true a.element a.count p))
    by false p s = done (ltb-false _ _ p) S
  sweeps_well (suc k) a {q} hg fuel S =
      by (ltb a.element a.count) refl (λ c q₁ S₁. sweeps_well k (advanced n a c) (next n a c hg).0 (omega (arith, (next n a c hg).2)) S₁) where
        Rest : Type 0
        Rest = (c : ℕ) (q₁ : List ℕ) → let b = advanced n a c in Standing b.element b.generator b.count q₁ → WellBy (sweep_from k n o room b q₁)

        here : Swept
        here = sweeps n o room a.count (record { 0 = a.element }) (record { 0 = a.generator }) q

        later : Swept → Sweep
        later v = after_swept v (λ c q₁. sweep_from k n o room (advanced n a c) q₁) (λ why q₁. sweep (ran.Refused why) q₁)

        held : rule.Known n step a.element a.generator a.count → ReadSoFar step n room a.element a.generator a.count
        held K = record { known = K; within = S.within_room; short = λ {e} he. S.short e he }

        visit_on : Rest → a.element < a.count → rule.Known n step a.element a.generator a.count
            → Meets n o step room lt a.element a.generator a.count q → WellBy (later here)
        visit_on rest hx K (goes M) =
            let f = next n a M.count hg in
            let low : a.element < M.count = row_known M.rule in
            rw M.is (rest M.count M.table (record {
              told = rw f.1 M.told;
              words = rw f.1 M.words;
              size = M.size;
              spot = rw f.1 (next_place o L P X a M.count hg low M.rule);
              seen = before_next (StepKnown n M.table) a M.count hg (record { all = λ y h hh b. M.kept y h hh (S.seen.all y h hh b) }) M.here;
              within_room = rw f.1 M.within_room;
              short = rw f.1 M.short;
            }))
        visit_on rest hx K (stops is why) =
            rw is (record { row = a.element; column = a.generator; count = a.count; before = held K; place = hg; stops = why })

        from : Rest → a.element < a.count → Place n N step a.element a.generator a.count → WellBy (later here)
        from rest hx (at l K) = visit_on rest hx K (meets o L P X S.told S.words S.size K S.within_room S.short S.seen.all hx hg)
        from rest hx (over l p) = absurd (omega arith)

        by : (b : Bool) → ltb a.element a.count ≡ b → Rest → WellBy (pick b (later here) (sweep (ran.Done a.count) q))
        by true p rest = from rest (ltb-true _ _ p) S.spot
        by false p rest = done (ltb-false _ _ p) S

  start : Standing 0 0 1 (replicate lt 0)
  start = record {
    told = (first_closed L (looped o L.few (pairs_full L) P) (some o L P X) {Live = Live (last_of_lem n step)}).machine.told;
    words = first_words o L P X;
    size = length-replicate lt 0;
    spot = at (omega arith) rule.start;
    seen = record { all = λ y h hh a. absurd (nothing_ahead a) };
    within_room = L.some;
    short = none;
  } where
    none : (e : ℕ) → e < 1 → length (recorded n step e) ≤ 4096
    none e he = let q : e ≡ 0 = omega arith in rw q (omega arith)

  swiftly_well : WellBy (swiftly n o room lt)
  unfolding swiftly
  swiftly_well = by (eqb n 0) refl where
    by : (b : Bool) → eqb n 0 ≡ b → WellBy (pick b (sweep (ran.Done 1) (replicate lt 0)) (sweep_from 18446744073709551615 n o room start_of_run (replicate lt 0)))
    by true q =
        let z : n ≡ 0 = eqb-true n 0 q in
        let K : rule.Known n step 0 n 1 = subst (λ (k : ℕ). rule.Known n step 0 k 1) (sym z) rule.start in
        let one : 1 ≡ N = all_numbered P K refl in
        done {x = 1} {g = 0} {c = 1} {q = replicate lt 0} (omega arith) (record {
          told = start.told;
          words = start.words;
          size = start.size;
          spot = over (omega arith) one;
          seen = record { all = λ y h hh a. absurd (omega arith) };
          within_room = start.within_room;
          short = start.short;
        })
    by false q =
        let d : n ≡ 0 → ⊥ = eqb-false _ _ q in
        sweeps_well 18446744073709551615 start_of_run (omega arith) (omega (arith, mul-le-mul L.limit L.few)) start

  -- The run by closed loops is done with the table's elements, or refused as the reading of the table is.
  pub swiftly_ends : (((swiftly n o room lt).answer ≡ ran.Done N) × WholeTable n N step room (swiftly n o room lt).table)
      ⊎ ((r : Refusal) × ((swiftly n o room lt).answer ≡ ran.Refused r) × ReadingRefused step n room r)
  swiftly_ends = by (swiftly n o room lt).answer refl swiftly_well where
    by : (r : Ran) → (swiftly n o room lt).answer ≡ r → Well r (swiftly n o room lt).table
        → (((swiftly n o room lt).answer ≡ ran.Done N) × WholeTable n N step room (swiftly n o room lt).table)
        ⊎ ((r : Refusal) × ((swiftly n o room lt).answer ≡ ran.Refused r) × ReadingRefused step n room r)
    by (ran.Done c) q W = inl (q ∙ ap ran.Done W.0, W.1)
    by (ran.Paused a) q W = absurd W
    by (ran.Refused r) q W = inr (r, q, W)

-- Such a table is one of which `coincides` speaks.
module _ {n N : ℕ} (o : List ℕ) {room lt lw : ℕ} (L : Limits n o room lt lw) {step : ℕ → ℕ → ℕ} (P : PresentedTable n N (order_of o) step) {q : List ℕ} (W : WholeTable n N step room q) where
  same_steps : (e g : ℕ) → e < N → g < n → step_of q n e g ≡ step e g
  same_steps e g he hg = omega (arith, W.told.succ e g hg (W.all e g he hg))

  pub whole_looped : Looped n N o (step_of q n)
  whole_looped = looped_agree o L.few (pairs_full L) (looped o L.few (pairs_full L) P) same_steps

  pub whole_parents : Parents n N (step_of q n) (parent_of q n) (last_of q n)
  whole_parents = parents_agree (parents P) same_steps W.words.parent W.words.last
