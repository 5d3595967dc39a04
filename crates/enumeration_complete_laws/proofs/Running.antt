-- 000's run visits place after place beside the table, and is done with it: it never pauses, and is never refused.
use Prim.Native.Nat.{ℕ, zero, suc, ◌+◌, ◌*◌, ◌<◌, ◌≤◌}
use mathlib.Core.Path.{◌≡◌, refl, sym, ap, ◌∙◌, subst}
use mathlib.Core.Bool.{Bool, true, false}
use mathlib.Core.Logic.{◌⊎◌, inl, inr}
use mathlib.Core.List.{List}
use native.Mathlib.Decide.{dec_lt}
use native.Mathlib.Omega.{arith}
use borrow.Author.Tests.{ltb-true, ltb-false, eqb-true, eqb-false}
use lib.ListN.{length, replicate}
use lib.Dec.{eqb, ltb}
use Rattle.egg.specs.declared.Refusal.{Refusal}
use Rattle.egg.specs.Table.{pick, start_of}
use Rattle.enumeration_rows.specs.Rows.{added_rows}
use Rattle.enumeration_run.specs.Run.{Visit, visits, advanced, RunResult, outcome, after, runs, start_of_run, enumerated}
use Rattle.enumeration_run.specs.declared.inner.Run.{Run}
use Rattle.enumeration_run.specs.declared.inner.Ran.{Ran}
use Rattle.enumeration_run.specs.declared.inner.Ran.TheVariants as ran
use Rattle.theory.specs.Table.{Table}
use Rattle.theory.specs.Words.{walk}
use Rattle.theory.specs.Appearance.{last_of_lem, recorded}
use Rattle.theory.specs.Numbering as rule
use Rattle.theory.specs.Presentation.{order_of}
use Rattle.theory.proofs.Walking.{walk_closed}
use Rattle.theory.proofs.Counting.{numbered_table, row_known}
use Rattle.theory.proofs.RuleLaws.{count_within, step_within, new_letters}
use Rattle.build_reading_laws.specs.Read.{Stops, skips_ahead, no_room, long_word, ReadSoFar, ReadingRefused}
use Rattle.enumeration_run.specs.Limits.{Limits}
use Rattle.enumeration_run_laws.specs.Going.{Going}
use Rattle.enumeration_run_laws.proofs.Running.{pairs_full, zeros}
use Rattle.enumeration_run_laws.proofs.Visiting.{next}
use Rattle.enumeration_run_laws.proofs.Going.{VisitedBy, visited, goes_on, first_going}
use Rattle.enumeration_run_laws.proofs.Ending.{never_paused}
use Rattle.enumeration_closure_laws.specs.Closure.{Closed}
use Rattle.enumeration_closure_laws.proofs.Beginning.{first_closed}
use Rattle.enumeration_quick_laws.specs.Sweeping.{Live}
use Rattle.theory_coxeter.specs.Tables.{PresentedTable, ExactWords}
use Rattle.theory_coxeter.proofs.Tables.{table, spelled}
use Rattle.enumeration_complete_laws.specs.Ends.{TableWords}
use Rattle.enumeration_complete_laws.proofs.GroupTable.{looped}
use Rattle.enumeration_complete_laws.proofs.Visiting.{Met, goes, stops, met}

-- Where the numbering has come to. When no row is left, all elements are numbered.
pub data Place (n N : ℕ) (step : ℕ → ℕ → ℕ) (x g c : ℕ) : Type 0 where
  at : x < c → rule.Known n step x g c → Place n N step x g c
  over : c ≤ x → c ≡ N → Place n N step x g c

-- What is closed under the steps and has the identity is the whole table.
pub all_numbered : {n N : ℕ} {m step : ℕ → ℕ → ℕ} → PresentedTable n N m step → {x c : ℕ} → rule.Known n step x n c → c ≡ suc x → c ≡ N
all_numbered {n} {N} {step = step} P {x} {c} K q = by (dec_lt c N) where
  T : Table n c step
  T = numbered_table (record { end = x; last_row = sym q; known = K })

  by : Dec (c < N) → c ≡ N
  by (yes l) =
      let w : walk step 0 (recorded n step c) < c = walk_closed T T.origin ((spelled P).over l) in
      absurd (omega (arith, w, (spelled P).spells l))
  by (no l) = omega (arith, count_within P.numbered K)

module _ {n N : ℕ} (o : List ℕ) {room lt lw : ℕ} (L : Limits n o room lt lw) {step : ℕ → ℕ → ℕ} (P : PresentedTable n N (order_of o) step) (X : ExactWords n (order_of o)) where
  -- Between two places.
  record Standing (x g c : ℕ) (t w : List ℕ) : Type 1 where
    going : Going n o room lt lw x g c t w
    closed : Closed n o step (Live (last_of_lem n step)) c lt lw t w
    place : Place n N step x g c
    words : TableWords n step c t

  -- How the run ends.
  abbrev Well : Ran → List ℕ → Type 0
  Well (ran.Done c) t = (c ≡ N) × TableWords n step N t
  Well (ran.Paused a) t = Unit {0}
  Well (ran.Refused r) t = ReadingRefused step n room r

  abbrev WellBy : RunResult → Type 0
  WellBy x = Well x.answer x.table

  pub next_place : (a : Run) (c : ℕ) → a.generator < n → a.element < c → rule.Known n step a.element (suc a.generator) c
      → let b = advanced n a c in Place n N step b.element b.generator c
  unfolding advanced
  next_place a c hg hx K = by (ltb (a.generator + 1) n) refl where
    by : (b : Bool) → ltb (a.generator + 1) n ≡ b
        → let r = pick {A = Run} b (record { element = a.element; generator = a.generator + 1; count = c }) (record { element = a.element + 1; generator = 0; count = c }) in
        Place n N step r.element r.generator c
    by true q = let i : suc a.generator ≡ a.generator + 1 = omega arith in at hx (rw i at K)
    by false q = row (dec_lt (a.element + 1) c) where
      i : suc a.generator ≡ n
      i = omega (arith, ltb-false (a.generator + 1) n q)

      full : rule.Known n step a.element n c
      full = rw i at K

      row : Dec (a.element + 1 < c) → Place n N step (a.element + 1) 0 c
      row (yes l) =
          let j : suc a.element ≡ a.element + 1 = omega arith in
          at l (rw j at (rule.next_row full (omega arith)))
      row (no l) = over (omega arith) (all_numbered P full (omega arith))

  done : {x g c : ℕ} {t w : List ℕ} → c ≤ x → Standing x g c t w → (c ≡ N) × TableWords n step N t
  done {x} {g} {c} {t} h S = by S.place where
    by : Place n N step x g c → (c ≡ N) × TableWords n step N t
    by (at l K) = absurd (omega arith)
    by (over l q) = (q, rw q at S.words)

  runs_well : (k : ℕ) (a : Run) {t w : List ℕ} → a.generator < n → Standing a.element a.generator a.count t w → WellBy (runs k n o room a t w)
  unfolding runs
  runs_well zero a {t} {w} hg S = by (ltb a.element a.count) refl where
    by : (b : Bool) → ltb a.element a.count ≡ b → WellBy (pick b (outcome (ran.Paused a) t w) (outcome (ran.Done a.count) t w))
    by true q = tt
    by false q = done (ltb-false _ _ q) S
  runs_well (suc k) a {t} {w} hg S = by (ltb a.element a.count) refl (λ c t₁ w₁ S₁. runs_well k (advanced n a c) (next n a c hg).0 S₁) where
    Rest : Type 1
    Rest = (c : ℕ) (t₁ w₁ : List ℕ) → let b = advanced n a c in Standing b.element b.generator b.count t₁ w₁ → WellBy (runs k n o room b t₁ w₁)

    here : Visit
    here = visits n o room a.count (record { 0 = a.element }) (record { 0 = a.generator }) t w

    later : Visit → RunResult
    later v = after v (λ c t₁ w₁. runs k n o room (advanced n a c) t₁ w₁) (λ why t₁ w₁. outcome (ran.Refused why) t₁ w₁)

    -- Nothing was to be refused before this place.
    held : rule.Known n step a.element a.generator a.count → ReadSoFar step n room a.element a.generator a.count
    held K = record {
      known = K;
      within = S.going.run.fits;
      short = λ {e} he. omega (arith, S.words.letters e he, S.going.short e he);
    }

    visit_on : Rest → a.element < a.count → rule.Known n step a.element a.generator a.count
        → Met n o step room lt lw a.element a.generator a.count t w → WellBy (later here)
    visit_on rest hx K (goes M) =
        let v = subst (VisitedBy L a.element a.generator) M.is (visited L S.going hx hg) in
        let f = next n a M.count hg in
        let going = goes_on L a M.count hg v.0 v.1 in
        rw M.is (rest M.count M.table M.work (record {
          going = going;
          closed = rw f.1 M.closed;
          place = rw f.1 (next_place a M.count hg v.0 M.rule);
          words = rw f.1 M.words;
        }))
    visit_on rest hx K (stops is why) =
        rw is (record { row = a.element; column = a.generator; count = a.count; before = held K; place = hg; stops = why })

    from : Rest → a.element < a.count → Place n N step a.element a.generator a.count → WellBy (later here)
    from rest hx (at l K) = visit_on rest hx K (met o L P X S.going S.closed K S.words hx hg)
    from rest hx (over l q) = absurd (omega arith)

    by : (b : Bool) → ltb a.element a.count ≡ b → Rest → WellBy (pick b (later here) (outcome (ran.Done a.count) t w))
    by true q rest = from rest (ltb-true _ _ q) S.place
    by false q rest = done (ltb-false _ _ q) S

  pub some : 1 ≤ N
  some = (table P).origin

  work : List ℕ
  work = added_rows (replicate lw 0) o n (record { 0 = 0 })

  pub first_words : TableWords n step 1 (replicate lt 0)
  first_words = record {
    parent = λ e pos he. absurd (omega arith);
    last = λ e pos he. absurd (omega arith);
    letters = λ e he. let q : e ≡ 0 = omega arith in rw q (zeros lt (start_of n 0 + 2 * n + 2));
  }

  enumerated_well : WellBy (enumerated n o room lt lw)
  unfolding enumerated work
  enumerated_well = by (eqb n 0) refl where
    by : (b : Bool) → eqb n 0 ≡ b
        → WellBy (pick b (outcome (ran.Done 1) (replicate lt 0) work) (runs 18446744073709551615 n o room start_of_run (replicate lt 0) work))
    by true q =
        let z : n ≡ 0 = eqb-true n 0 q in
        let K : rule.Known n step 0 n 1 = subst (λ (k : ℕ). rule.Known n step 0 k 1) (sym z) rule.start in
        let one : 1 ≡ N = all_numbered P K refl in
        (one, subst (λ (c : ℕ). TableWords n step c (replicate lt 0)) one first_words)
    by false q =
        let d : n ≡ 0 → ⊥ = eqb-false _ _ q in
        runs_well 18446744073709551615 start_of_run (omega arith) (record {
          going = first_going L;
          closed = first_closed L (looped o L.few (pairs_full L) P) some;
          place = at (omega arith) rule.start;
          words = first_words;
        })

  -- The run is done with the table's elements and words, or refused as the reading of the table is.
  pub enumerated_ends : (((enumerated n o room lt lw).answer ≡ ran.Done N) × TableWords n step N (enumerated n o room lt lw).table)
      ⊎ ((r : Refusal) × ((enumerated n o room lt lw).answer ≡ ran.Refused r) × ReadingRefused step n room r)
  enumerated_ends = by (enumerated n o room lt lw).answer refl enumerated_well where
    by : (r : Ran) → (enumerated n o room lt lw).answer ≡ r → Well r (enumerated n o room lt lw).table
        → (((enumerated n o room lt lw).answer ≡ ran.Done N) × TableWords n step N (enumerated n o room lt lw).table)
        ⊎ ((r : Refusal) × ((enumerated n o room lt lw).answer ≡ ran.Refused r) × ReadingRefused step n room r)
    by (ran.Done c) q W = inl (q ∙ ap ran.Done W.0, W.1)
    by (ran.Paused a) q W = absurd (never_paused L q)
    by (ran.Refused r) q W = inr (r, q, W)

  -- A table that can be read is not refused.
  pub readable : N ≤ room → ((e : ℕ) → e < N → length (recorded n step e) ≤ 4096) → (r : Refusal) → ReadingRefused step n room r → ⊥
  readable fits short r F = by F.stops where
    K : rule.Known n step F.row F.column F.count
    K = F.before.known

    low : F.row < F.count
    low = row_known K

    within : F.count ≤ N
    within = count_within P.numbered K

    below : step F.row F.column < N
    below = (table P).closed {e = F.row} {g = F.column} (omega (arith, low, within)) F.place

    by : {r : Refusal} → Stops step n room F.row F.column F.count r → ⊥
    by (skips_ahead l) = omega (arith, step_within P.numbered K F.place)
    by (no_room q full) = omega (arith, below)
    by (long_word q more long) = omega (arith, below, new_letters K F.place q, short F.count (omega (arith, below)))

  pub enumerated_done : N ≤ room → ((e : ℕ) → e < N → length (recorded n step e) ≤ 4096)
      → ((enumerated n o room lt lw).answer ≡ ran.Done N) × TableWords n step N (enumerated n o room lt lw).table
  enumerated_done fits short = by enumerated_ends where
    by : (((enumerated n o room lt lw).answer ≡ ran.Done N) × TableWords n step N (enumerated n o room lt lw).table)
        ⊎ ((r : Refusal) × ((enumerated n o room lt lw).answer ≡ ran.Refused r) × ReadingRefused step n room r)
        → ((enumerated n o room lt lw).answer ≡ ran.Done N) × TableWords n step N (enumerated n o room lt lw).table
    by (inl d) = d
    by (inr R) = absurd (readable fits short R.0 R.2)
