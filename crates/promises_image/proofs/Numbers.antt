-- No check refuses with the number 0: so a number of 0 is acceptance.
use Prim.Native.Nat.{ℕ, zero, suc, ◌+◌}
use mathlib.Core.Path.{◌≡◌, refl}
use mathlib.Core.Bool.{false}
use mathlib.Core.List.{List}
use borrow.Author.Tests.{eqb-false}
use lib.Dec.{eqb}
use Rattle.egg.specs.declared.Refusal.{Refusal}
use Rattle.egg.specs.Answers.{fine}
use Rattle.egg.specs.Refusals.{refusal_paper}
use Rattle.std.specs.Prelude.{Ok, Err}
use Rattle.egg.proofs.Scans.{Says, says_fine, says_refused, says_pick, says_then, says_scan}
use Rattle.build_checks.specs.Checks.{missing, missing_row, check8, ranges, range_row, links_of, wrong, wrong_row, check_table, counted, counts_right}
use Rattle.build_checks_inverses.specs.Inverses.{fill_inverses, inverses_right}
use Rattle.build_checks_group.specs.Lefts.{identity_row, columns_row, spelled_row, spelled, check_steps, fill_left, goes_row, all_go, left_verdict, lefts}
use Rattle.build_checks.specs.Checks.{Checked, checked, verdict_of, check_rest, check_group}
use Rattle.image_check.specs.Short.{verdict_number}
use Rattle.build_checks_laws.proofs.Refused.{left_says, checked_says, table_says}

abbrev Some : Refusal → Type 0
Some r = (refusal_paper r).number ≡ 0 → ⊥

refuses : (r : Refusal) → eqb (refusal_paper r).number 0 ≡ false → Says Some (Err r)
refuses r h = says_refused (eqb-false (refusal_paper r).number 0 h)

ruleset numbered = (says_then, says_scan, says_pick, says_fine, refuses)

module _ (t : List ℕ) (n N : ℕ) where
  table_numbered : Says Some (check_table t n N)
  unfolding check_table check8 missing missing_row ranges range_row links_of wrong wrong_row
  table_numbered = search numbered depth 12

  counts_numbered : (w : List ℕ) → Says Some (counts_right w n N)
  unfolding counts_right
  counts_numbered w = search numbered

  inverses_numbered : Says Some (inverses_right t n N)
  unfolding inverses_right
  inverses_numbered = search numbered

  steps_numbered : Says Some (check_steps t n N)
  unfolding check_steps identity_row spelled columns_row spelled_row
  steps_numbered = search numbered depth 12

  all_go_numbered : (w : List ℕ) → Says Some (all_go t w n N)
  unfolding all_go goes_row
  all_go_numbered w = search numbered

lefts_numbered : (k : ℕ) (t : List ℕ) (n N : ℕ) (w : List ℕ) (s : ℕ) → Says Some (left_verdict (lefts k t n N w s))
unfolding lefts
lefts_numbered zero t n N w s = says_fine
lefts_numbered (suc k) t n N w s =
    let v = fill_left N t n s w 0 in
    left_says (all_go t v n N) v (lefts k t n N v (s + 1)) (all_go_numbered t n N v) (lefts_numbered k t n N v (s + 1))

group_numbered : (t w : List ℕ) (n N : ℕ) → Says Some (verdict_of (check_group t w n N))
unfolding check_group check_rest
group_numbered t w n N =
    let f = fill_inverses N t n 0 in
    let c = counted t w n N in
    checked_says (check_table t n N) t w _ (table_numbered t n N)
    (checked_says (counts_right c n N) t c _ (counts_numbered t n N c)
    (checked_says (inverses_right f n N) f c _ (inverses_numbered f n N)
    (checked_says (check_steps f n N) f c _ (steps_numbered f n N) (table_says f (lefts n f n N c 0) (lefts_numbered n f n N c 0)))))

-- So where the number is 0, the checks have passed.
pub fine_checks : (t w : List ℕ) (n N : ℕ) → verdict_number (verdict_of (check_group t w n N)) ≡ 0
    → (t₁ : List ℕ) × (w₁ : List ℕ) × (check_group t w n N ≡ checked fine t₁ w₁)
fine_checks t w n N h = go (check_group t w n N) refl (group_numbered t w n N) h where
  go : (k : Checked) → check_group t w n N ≡ k → Says Some (verdict_of k) → verdict_number (verdict_of k) ≡ 0
      → (t₁ : List ℕ) × (w₁ : List ℕ) × (check_group t w n N ≡ checked fine t₁ w₁)
  go (checked (Ok _) t₁ w₁) q s z = (t₁, w₁, q)
  go (checked (Err r) t₁ w₁) q s z = absurd (s.of r refl z)
