-- A group's right steps, read from numbers in order of first appearance: which of them the checks refuse. Only 9, for a generator that is the identity, and
-- 11, for one that is as an earlier one; 8, 10, 12 and 17 never.
use Prim.Native.Nat.{ℕ, suc, ◌+◌, ◌*◌, ◌<◌, ◌≤◌}
use mathlib.Core.Path.{◌≡◌, sym, ◌∙◌}
use mathlib.Core.List.{List}
use native.Mathlib.Numerals.{add-one}
use native.Mathlib.Omega.{arith}
use borrow.Author.Tests.{eq-eqb, ne_eqb}
use lib.ListN.{length}
use Rattle.egg.specs.Answers.{fine}
use Rattle.egg.specs.Table.{step_of, parent_of, last_of}
use Rattle.egg.specs.Scan.{refused_of}
use Rattle.build_checks.specs.Checks.{wrong, wrong_row, check_table, check8, ranges, counted, checked, check_rest, check_group}
use Rattle.build_checks_inverses.specs.Inverses.{fill_inverses}
use Rattle.build_checks_group.specs.Lefts.{identity_row, check_steps}
use Rattle.theory.specs.Group.{RightRegular}
use Rattle.theory.specs.Table.{Columns}
use Rattle.theory.specs.Words.{Parents, Recorded}
use Rattle.theory.proofs.Counting.{numbered_table}
use Rattle.theory.proofs.FirstPlaces.{first_parents}
use Rattle.theory.proofs.Recording.{word_of_recorded, recorded_spelled}
use Rattle.theory.proofs.Complete.{columns, no_fixed_point, only_identity, inverse_involution}
use Rattle.build_checks_laws.specs.Stored.{StoredTable, word_of}
use Rattle.build_checks_laws.proofs.Inverses.{fill_kept, stored_kept, step_is}
use Rattle.build_checks_laws.proofs.Passes.{scan_stops}
use Rattle.build_checks_laws.proofs.Tests.{table_fine, wrong_fine, counts_fine}
use Rattle.build_checks_laws.proofs.Arrivals.{arrivals_right}
use Rattle.build_checks_laws.proofs.Complete.{present, in_range, inverses_exactly}
use Rattle.build_reading_laws.specs.Read.{Read}
use Rattle.build_reading_laws.proofs.Readings.{read_words, read_readable}
use Rattle.build_reading_laws.proofs.Storing.{read_stored}

module _ {src : ℕ → ℕ → ℕ} {n room size N : ℕ} {t : List ℕ} (R : Read src n room size N t) (G : RightRegular n N src)
    (few : n ≤ 8) (hi : room ≤ 65535) (inside : N * (2 * n + 4) ≤ length t) (w : List ℕ) (work : 0 < n → N ≤ length w) where
  abbrev back : ℕ → ℕ → ℕ
  back e g = G.op e (G.inv (src 0 g))

  C : Columns n N src back
  C = columns G.group G.steps

  S : StoredTable t n N src back (parent_of t n) (last_of t n) (word_of t n)
  S = read_stored R C

  P : Parents n N src (parent_of t n) (last_of t n)
  P = first_parents R.appearance

  W : Recorded N (parent_of t n) (last_of t n) (word_of t n)
  W = word_of_recorded P

  short : (e : ℕ) → e < N → length (word_of t n e) ≤ 4096
  short e he = rw (read_words R e he) ((read_readable R).short he)

  eight : check8 t n N ≡ fine
  eight = present S (numbered_table R.by_rule) P W C

  ranged : ranges t n N ≡ fine
  ranged = in_range S (numbered_table R.by_rule) P W C short

  first_step : {g : ℕ} → g < n → step_of t n 0 g ≡ src 0 g
  first_step hg = step_is S R.origin hg

  module _ {g : ℕ} (hg : g < n) where
    -- 9: the first generator that is the identity, at the identity.
    wrong_9 : src 0 g ≡ 0 → ((h : ℕ) → h < g → ¬ (src 0 h ≡ 0)) → wrong t n N ≡ refused_of 9 0 g 0
    unfolding wrong wrong_row
    wrong_9 q before = scan_stops N _ 0 0 (omega arith) (omega (arith, R.origin))
        (scan_stops n _ 0 g (omega arith) (omega arith) (simp (eq-eqb (step_of t n 0 g) 0 (first_step hg ∙ q)))
        (λ h _ l. simp (ne_eqb (step_of t n 0 h) 0 (λ z. before h l (sym (first_step (omega arith)) ∙ z)))))
        (λ l _ m. absurd (omega arith))

    pub check_9 : src 0 g ≡ 0 → ((h : ℕ) → h < g → ¬ (src 0 h ≡ 0)) → check_group t w n N ≡ checked (refused_of 9 0 g 0) t w
    unfolding check_group check_table
    check_9 q before = rw (eight, ranged, wrong_9 q before)

    -- 11: the first generator whose element is not its number and one.
    module _ (moves : (h : ℕ) → h < n → ¬ (src 0 h ≡ 0)) where
      none_wrong : wrong t n N ≡ fine
      none_wrong = (wrong_fine t n N).1 (λ e he h hh. (
        λ q. moves h hh (no_fixed_point G.group G.steps he hh (sym (step_is S he hh) ∙ q)),
        λ pos q.
            let z : e ≡ 0 = only_identity G.group G.steps he hh (sym (step_is S he hh) ∙ q ∙ first_step hh) in
            omega arith,
      ))

      row_11 : ¬ (src 0 g ≡ suc g) → ((h : ℕ) → h < g → src 0 h ≡ suc h) → identity_row (fill_inverses N t n 0) n ≡ refused_of 11 g 0 0
      unfolding identity_row
      row_11 differs before =
          let S₁ = stored_kept (fill_kept t n N) S in
          let f = fill_inverses N t n 0 in
          scan_stops n _ 0 g (omega arith) (omega arith)
          (simp (ne_eqb (step_of f n 0 g) (g + 1) (λ z. differs (sym (step_is S₁ R.origin hg) ∙ z ∙ add-one g))))
          (λ h _ l. simp (eq-eqb (step_of f n 0 h) (h + 1) (step_is S₁ R.origin (omega arith) ∙ before h l ∙ sym (add-one h))))

      pub check_11 : ¬ (src 0 g ≡ suc g) → ((h : ℕ) → h < g → src 0 h ≡ suc h)
          → check_group t w n N ≡ checked (refused_of 11 g 0 0) (fill_inverses N t n 0) (counted t w n N)
      unfolding check_group check_rest check_steps
      check_11 differs before =
          let T = numbered_table R.by_rule in
          let a = (table_fine t n N).1 (eight, (ranged, none_wrong)) in
          let b = (counts_fine t n N (counted t w n N)).1 (arrivals_right few S C w work) in
          let d = (inverses_exactly few (omega (arith, R.within)) inside S T P W C short).1
          (λ e he. inverse_involution G.group G.steps (recorded_spelled P W) C he) in
          rw (a, b, d, row_11 differs before)
