-- The checks 8 to 12 after a reading refuse just where there is a fault, with its number and its places. Each check is decided place by place (Tests);
-- where 8 has passed, the numbers are in range and the arrivals right.
use Prim.Native.Nat.{ℕ, suc, ◌+◌, ◌*◌, ◌≤◌, ◌<◌}
use mathlib.Core.Path.{◌≡◌, refl, sym, ap, ◌∙◌}
use mathlib.Core.Logic.{◌⊎◌, inl, inr, ⊎_elim}
use mathlib.Core.List.{List}
use native.Mathlib.Nat.{add-zero}
use native.Mathlib.Omega.{arith}
use lib.ListN.{length}
use Rattle.egg.specs.declared.Refusal.{Refusal}
use Rattle.egg.specs.Answers.{Verdict, fine, numbered}
use Rattle.std.specs.Prelude.{Ok, Err}
use Rattle.egg.specs.Table.{parent_of, last_of, back_of}
use Rattle.egg.specs.Scan.{and_then}
use Rattle.egg.proofs.Scans.{refused_fine}
use Rattle.build_checks.specs.Checks.{missing, missing_row, check8, ranges, wrong, wrong_row, check_table, counted, counts_right, Checked, checked, then_checked, with_table, check_rest, check_group}
use Rattle.build_lending.specs.Lending.{work_need}
use Rattle.build_checks_inverses.specs.Inverses.{fill_inverses, inverses_right}
use Rattle.build_checks_group.specs.Lefts.{identity_row, spelled, check_steps, lefts}
use Rattle.theory.specs.Table.{Table, Columns, generator}
use Rattle.theory.specs.Words.{Parents, Recorded}
use Rattle.theory.specs.Appearance.{recorded}
use Rattle.theory.proofs.AnyCarrier.{any_carrier}
use Rattle.theory.proofs.Counting.{numbered_table}
use Rattle.theory.proofs.FirstPlaces.{first_parents}
use Rattle.build_checks_laws.specs.Stored.{StoredTable}
use Rattle.build_checks_laws.proofs.Tests.{missing_fine, check8_fine, counts_fine, table_fine, steps_fine}
use Rattle.build_checks_laws.proofs.Complete.{present, in_range, inverses_exactly}
use Rattle.build_checks_laws.proofs.Arrivals.{arrivals_right}
use Rattle.build_checks_laws.proofs.Refused.{Before12, places_12, until_12, refused_no_group, refused_12}
use Rattle.build_reading_laws.specs.Read.{Read}
use Rattle.build_reading_laws.proofs.Readings.{read_readable}
use Rattle.build_laws.proofs.Built.{work_enough, rows_fit}
use Rattle.build_reading_laws.proofs.Storing.{read_recorded, words_stored, read_columns}
use Rattle.promises_refusals.specs.Firsts.{FirstOf, FirstPlace}
use Rattle.promises_refusals.specs.Faults.{Unreached, WrongStep, inverse_by_word, Fault, lacks, strays, twists, misnumbers, groupless}
use Rattle.promises_refusals.proofs.Firsts.{first_found, first_refused_lem, first_fine, place_found, place_refused, place_fine, fine_place}
use Rattle.promises_refusals.proofs.Tests.{reached_decided, steps_decided, inverses_decided, identity_decided}

-- A refusal is the first verdict's, or comes after it.
pub then_split : (u v : Verdict) {r : Refusal} → and_then u v ≡ Err r → (u ≡ Err r) ⊎ ((u ≡ fine) × (v ≡ Err r))
then_split (Ok _) v h = inr (refl, h)
then_split (Err q) v h = inl h

pub checked_split : (v : Verdict) (t w : List ℕ) (c : Checked) {r : Refusal} {t₁ w₁ : List ℕ} → then_checked v t w c ≡ checked (Err r) t₁ w₁
    → (v ≡ Err r) ⊎ ((v ≡ fine) × (c ≡ checked (Err r) t₁ w₁))
checked_split (Ok _) t w c h = inr (refl, h)
checked_split (Err q) t w c {r} h = let e : q ≡ r = cc in inl (ap (λ (x : Refusal). Err x) e)

same_refusal : {r s : Refusal} {t t₁ w w₁ : List ℕ} → checked (Err r) t w ≡ checked (Err s) t₁ w₁ → r ≡ s
same_refusal h = cc

module _ (src : ℕ → ℕ → ℕ) (n room size : ℕ) (w : List ℕ) (few : n ≤ 8) (lo : 1 ≤ room) (hi : room ≤ 65535) (fits : room * (2 * n + 4) ≤ size)
    (work : work_need n room ≤ length w) {N : ℕ} {t : List ℕ} (R : Read src n room size N t) where
  -- Every row that was reached is read, so that no successor is missing.
  pub none_missing : missing t n N 0 ≡ fine
  none_missing = (missing_fine t n N 0).1 (λ e he g hg z. omega (arith, simp add-zero at z, R.successor he hg))

  lacks_found : {r : Refusal} → check8 t n N ≡ Err r → Fault src n room r
  unfolding check8 missing missing_row
  lacks_found h =
      let p = place_found (reached_decided R) (rw none_missing at h) in
      rw p.3 (lacks (record { elements = N; readable = read_readable R; first = p.2 }))

  pub lacks_refused : {e g : ℕ} → FirstPlace n N (Unreached N src) e g → check_group t w n N ≡ checked (Err (numbered 8 e g 0)) t w
  unfolding check_group check_table check8 missing missing_row
  lacks_refused F = rw (none_missing, place_refused (reached_decided R) F)

  -- Where 8 passes, each column is undone by the predecessors that are stored.
  eight_columns : check8 t n N ≡ fine → Columns n N src (back_of t n)
  eight_columns h = read_columns R ((check8_fine t n N).0 h).1

  T : Table n N src
  T = numbered_table R.by_rule

  P : Parents n N src (parent_of t n) (last_of t n)
  P = first_parents R.appearance

  W : Recorded N (parent_of t n) (last_of t n) (recorded n src)
  W = read_recorded R

  small : N ≤ 65535
  small = omega (arith, R.within)

  rows : N * (2 * n + 4) ≤ length t
  rows = rows_fit src n room size w few lo hi fits work R.within R.whole

  short : (e : ℕ) → e < N → length (recorded n src e) ≤ 4096
  short e he = (read_readable R).short he

  module _ {back : ℕ → ℕ → ℕ} (C : Columns n N src back) where
    S : StoredTable t n N src back (parent_of t n) (last_of t n) (recorded n src)
    S = words_stored R C

    in_ranges : ranges t n N ≡ fine
    in_ranges = in_range S T P W C short

    -- "For a count the element and n": after a reading that has passed 8 no count is wrong.
    pub counts_right_lem : counts_right (counted t w n N) n N ≡ fine
    counts_right_lem = (counts_fine t n N (counted t w n N)).1 (arrivals_right few S C w (work_enough src n room size w few lo hi fits work R.within))

    strays_found : {r : Refusal} → wrong t n N ≡ Err r → Fault src n room r
    unfolding wrong wrong_row
    strays_found h =
        let p = place_found (steps_decided R) h in
        rw p.3 (strays (record { elements = N; readable = read_readable R; back = back; columns = C; first = p.2 }))

    pub strays_refused : {e g : ℕ} → FirstPlace n N (WrongStep src) e g → check_group t w n N ≡ checked (Err (numbered 9 e g 0)) t w
    unfolding check_group check_table wrong wrong_row
    strays_refused F = rw (present S T P W C, in_ranges, place_refused (steps_decided R) F)

    module _ (moves : (x g : ℕ) → x < N → g < n → WrongStep src x g → ⊥) where
      table_passes : check_table t n N ≡ fine
      unfolding check_table wrong wrong_row
      table_passes = rw (present S T P W C, in_ranges, place_fine (steps_decided R) moves)

      twists_found : {r : Refusal} → inverses_right (fill_inverses N t n 0) n N ≡ Err r → Fault src n room r
      unfolding inverses_right
      twists_found h =
          let p = first_found (inverses_decided small rows S T P W C) h in
          rw p.2 (twists (record {
            elements = N;
            readable = read_readable R;
            back = back;
            columns = C;
            moves = λ {x} {g} hx hg. moves x g hx hg;
            first = p.1;
            inverse_is = refl;
            again_is = refl;
          }))

      pub twists_refused : {e : ℕ} → FirstOf N (λ x. ¬ (inverse_by_word src n back (inverse_by_word src n back x) ≡ x)) e → (t₁ : List ℕ) × (w₁ : List ℕ)
          × (check_group t w n N ≡ checked (Err (numbered 10 e (inverse_by_word src n back e) (inverse_by_word src n back (inverse_by_word src n back e)))) t₁ w₁)
      unfolding check_group check_rest inverses_right
      twists_refused F =
          (fill_inverses N t n 0, counted t w n N, rw (table_passes, counts_right_lem, first_refused_lem (inverses_decided small rows S T P W C) F))

      module _ (turns : (x : ℕ) → x < N → inverse_by_word src n back (inverse_by_word src n back x) ≡ x) where
        inverses_pass : inverses_right (fill_inverses N t n 0) n N ≡ fine
        unfolding inverses_right
        inverses_pass = first_fine (inverses_decided small rows S T P W C) (λ x hx d. d (turns x hx))

        misnumbers_found : {r : Refusal} → identity_row (fill_inverses N t n 0) n ≡ Err r → Fault src n room r
        unfolding identity_row
        misnumbers_found h =
            let p = first_found (identity_decided small rows S T P W C) h in
            rw p.2 (misnumbers (record {
              elements = N;
              readable = read_readable R;
              back = back;
              columns = C;
              moves = λ {x} {h = g} hx hg. moves x g hx hg;
              turns = λ {x} hx. turns x hx;
              first = p.1;
            }))

        pub misnumbers_refused : {g : ℕ} → FirstOf n (λ x. ¬ (generator src x ≡ suc x)) g → (t₁ : List ℕ) × (w₁ : List ℕ)
            × (check_group t w n N ≡ checked (Err (numbered 11 g 0 0)) t₁ w₁)
        unfolding check_group check_rest check_steps identity_row
        misnumbers_refused F =
            (fill_inverses N t n 0, counted t w n N, rw (table_passes, counts_right_lem, inverses_pass, first_refused_lem (identity_decided small rows S T P W C) F))

    -- What is refused after 11 is no group's.
    groupless_found : {r : Refusal} {t₁ w₁ : List ℕ} → Before12 t w n N → check_group t w n N ≡ checked (Err r) t₁ w₁ → Fault src n room r
    groupless_found {r} B h =
        let enough = work_enough src n room size w few lo hi fits work R.within in
        let U = (until_12 few small rows S T P W C short w enough).0 B in
        let none = refused_no_group few small rows S T P W C short w enough h U.identity_row_lem in
        let b = (refused_12 few small rows S T P W C short w enough).1 (U, none) in
        let q : r ≡ b.0 = same_refusal (sym h ∙ b.3) in
        let e : r ≡ numbered 12 0 0 0 = q ∙ places_12 t w n N b.3 b.4 in
        rw e (groupless (record { readable = read_readable R; back = back; until_12 = U; no_group_lem = λ g. none (any_carrier.0 g) }))

  table_fault : {r : Refusal} → check_table t n N ≡ Err r → Fault src n room r
  unfolding check_table
  table_fault h = ⊎_elim
      lacks_found
      (λ a. ⊎_elim
      (λ q. absurd (refused_fine (sym q ∙ in_ranges (eight_columns a.0))))
      (λ b. strays_found (eight_columns a.0) b.1)
      (then_split (ranges t n N) (wrong t n N) a.1))
      (then_split (check8 t n N) (and_then (ranges t n N) (wrong t n N)) h)

  none_wrong : check_table t n N ≡ fine → (x g : ℕ) → x < N → g < n → WrongStep src x g → ⊥
  unfolding wrong wrong_row
  none_wrong h = fine_place (steps_decided R) ((table_fine t n N).0 h).1.1

  -- 10 to 12, where 8 and 9 have passed.
  module _ {r : Refusal} {t₁ w₁ : List ℕ} (h : check_group t w n N ≡ checked (Err r) t₁ w₁) (table : check_table t n N ≡ fine) where
    C : Columns n N src (back_of t n)
    C = eight_columns ((table_fine t n N).0 table).0

    turned : inverses_right (fill_inverses N t n 0) n N ≡ fine → (x : ℕ) → x < N → inverse_by_word src n (back_of t n) (inverse_by_word src n (back_of t n) x) ≡ x
    turned i = (inverses_exactly few small rows (S C) T P W C short).0 i

    twelve : inverses_right (fill_inverses N t n 0) n N ≡ fine → identity_row (fill_inverses N t n 0) n ≡ fine → Fault src n room r
    twelve i d = groupless_found C (record { table = table; counts = counts_right_lem C; inverses = i; identity = d }) h

    steps_fault : inverses_right (fill_inverses N t n 0) n N ≡ fine → check_steps (fill_inverses N t n 0) n N ≡ Err r → Fault src n room r
    unfolding check_steps
    steps_fault i q = ⊎_elim
        (misnumbers_found C (none_wrong table) (turned i))
        (λ a. twelve i a.0)
        (then_split (identity_row (fill_inverses N t n 0) n) (spelled (fill_inverses N t n 0) n N) q)

    rest_fault : check_rest (fill_inverses N t n 0) (counted t w n N) n N ≡ checked (Err r) t₁ w₁ → Fault src n room r
    unfolding check_rest
    rest_fault q =
        let f = fill_inverses N t n 0 in
        let c = counted t w n N in
        ⊎_elim
        (twists_found C (none_wrong table))
        (λ i. ⊎_elim
        (steps_fault i.0)
        (λ s. twelve i.0 ((steps_fine f n N).0 s.0).0)
        (checked_split (check_steps f n N) f c (with_table f (lefts n f n N c 0)) i.1))
        (checked_split (inverses_right f n N) f c _ q)

  -- Whatever the checks refuse after this reading, there is the fault.
  pub checked_fault : {r : Refusal} {t₁ w₁ : List ℕ} → check_group t w n N ≡ checked (Err r) t₁ w₁ → Fault src n room r
  unfolding check_group
  checked_fault h =
      let f = fill_inverses N t n 0 in
      let c = counted t w n N in
      ⊎_elim
      table_fault
      (λ a. ⊎_elim
      (λ q. absurd (refused_fine (sym q ∙ counts_right_lem (C h a.0))))
      (λ b. rest_fault h a.0 b.1)
      (checked_split (counts_right c n N) t c (check_rest f c n N) a.1))
      (checked_split (check_table t n N) t w _ h)
