-- What each check of a table has seen when it finds nothing to refuse: exactly what the definition tests, at each place.
use Prim.Native.Nat.{ℕ, ◌+◌, ◌*◌, ◌≤◌, ◌<◌}
use mathlib.Core.Path.{◌≡◌}
use mathlib.Core.Logic.Iff
use mathlib.Core.Logic.{◌↔◌}
use mathlib.Core.List.{List}
use native.Mathlib.Nat.{add-zero}
use lib.ListN.{get_or}
use Rattle.egg.specs.Answers.{fine}
use Rattle.egg.specs.Table.{start_of, parent_of, last_of, length_of, inverse_of, step_of, back_of}
use Rattle.build_checks.specs.Checks.{missing, missing_row, check8, ranges, range_row, links_of, wrong, wrong_row, check_table, counts_right}
use Rattle.build_checks_inverses.specs.Inverses.{inverses_right}
use Rattle.build_checks_group.specs.Lefts.{identity_row, spelled, columns_row, spelled_row, check_steps, all_go, goes_row}
use Rattle.egg.proofs.Scans.{and_then_fine, scan_fine}
use Rattle.build_checks_laws.proofs.Passes.{eq_then, eq_passes, ne_then, ne_passes, le_passes, le_then, lt_then, lt_passes, first_or, unless_first}

module _ (t : List ℕ) (n N : ℕ) where
  pub missing_fine : (shift : ℕ) → missing t n N shift ≡ fine
      ↔ ((e : ℕ) → e < N → (g : ℕ) → g < n → get_or t (start_of n e + shift + g) 0 ≡ 0 → ⊥)
  unfolding missing missing_row
  missing_fine shift = simp (scan_fine, ne_passes) Iff.rfl

  pub check8_fine : check8 t n N ≡ fine
      ↔ (((e : ℕ) → e < N → (g : ℕ) → g < n → get_or t (start_of n e + g) 0 ≡ 0 → ⊥)
      × ((e : ℕ) → e < N → (g : ℕ) → g < n → get_or t (start_of n e + n + g) 0 ≡ 0 → ⊥))
  unfolding check8
  check8_fine = simp (and_then_fine, missing_fine, add-zero) Iff.rfl

  pub ranges_fine : ranges t n N ≡ fine
      ↔ ((e : ℕ) → e < N → ((k : ℕ) → k < 2 * n → get_or t (start_of n e + k) 0 ≤ N) × ((length_of t n e ≤ 4096) × (0 < e → (parent_of t n e < e) × (last_of t n e < n))))
  unfolding ranges range_row links_of
  ranges_fine = simp (scan_fine, and_then_fine, le_passes, le_then, unless_first, lt_passes, lt_then, add-zero) Iff.rfl

  pub wrong_fine : wrong t n N ≡ fine
      ↔ ((e : ℕ) → e < N → (g : ℕ) → g < n → (step_of t n e g ≡ e → ⊥) × (0 < e → step_of t n e g ≡ step_of t n 0 g → ⊥))
  unfolding wrong wrong_row
  wrong_fine = simp (scan_fine, ne_passes, ne_then, unless_first) Iff.rfl

  pub counts_fine : (w : List ℕ) → counts_right w n N ≡ fine ↔ ((e : ℕ) → e < N → get_or w e 0 ≡ n)
  unfolding counts_right
  counts_fine w = simp (scan_fine, eq_passes) Iff.rfl

  pub inverses_fine : inverses_right t n N ≡ fine ↔ ((e : ℕ) → e < N → inverse_of t n (inverse_of t n e) ≡ e)
  unfolding inverses_right
  inverses_fine = simp (scan_fine, eq_passes) Iff.rfl

  pub identity_fine : identity_row t n ≡ fine ↔ ((g : ℕ) → g < n → step_of t n 0 g ≡ g + 1)
  unfolding identity_row
  identity_fine = simp (scan_fine, eq_passes) Iff.rfl

  pub spelled_fine : spelled t n N ≡ fine
      ↔ ((e : ℕ) → e < N → ((g : ℕ) → g < n → step_of t n (back_of t n e g) g ≡ e)
      × ((e ≡ 0 → length_of t n e ≡ 0) × (0 < e → (step_of t n (parent_of t n e) (last_of t n e) ≡ e) × (length_of t n e ≡ length_of t n (parent_of t n e) + 1))))
  unfolding spelled columns_row spelled_row
  spelled_fine = simp (scan_fine, and_then_fine, eq_passes, eq_then, first_or) Iff.rfl

  pub all_go_fine : (w : List ℕ) → all_go t w n N ≡ fine
      ↔ ((x : ℕ) → x < N → (g : ℕ) → g < n → get_or w (step_of t n x g) 0 ≡ step_of t n (get_or w x 0) g)
  unfolding all_go goes_row
  all_go_fine w = simp (scan_fine, eq_passes) Iff.rfl

  pub table_fine : check_table t n N ≡ fine ↔ ((check8 t n N ≡ fine) × ((ranges t n N ≡ fine) × (wrong t n N ≡ fine)))
  unfolding check_table
  table_fine = simp and_then_fine Iff.rfl

  pub steps_fine : check_steps t n N ≡ fine ↔ ((identity_row t n ≡ fine) × (spelled t n N ≡ fine))
  unfolding check_steps
  steps_fine = simp and_then_fine Iff.rfl
