-- The test that computes is exact: by the numbering rule, it passes just if some group has the table.
use mathlib.Core.Logic.{◌↔◌}
use mathlib.Core.List.{List}
use Prim.Native.Nat.{ℕ}
use native.Mathlib.Nat.{lt_of_le_of_lt}
use lib.Dec.{T, ltb→lt, lt→ltb, eqb→eq}
use Rattle.theory.specs.Table.{Table, Columns}
use Rattle.theory.specs.Numbering.{Numbered, IdentityRow}
use Rattle.theory.specs.Appearance.{recorded}
use Rattle.theory.specs.AnyGroup.{SomeGroup}
use Rattle.theory.specs.Regular.{Check}
use Rattle.theory.specs.Test.{identity_row_test, back_of_lem, columns_test, check_test, group_test}
use Rattle.theory.proofs.BoundedTests.{eq→eqb, and_holds, all_holds, least_holds, least_at_most}
use Rattle.theory.proofs.Counting.{numbered_table}
use Rattle.theory.proofs.ColumnLaws.{columns_by_back}
use Rattle.theory.proofs.FirstPlaces.{numbered_spelled}
use Rattle.theory.proofs.Exact.{exact_any}

pub identity_row_exact : (n : ℕ) (step : ℕ → ℕ → ℕ) → T (identity_row_test n step) ↔ IdentityRow n step
identity_row_exact n step = (λ h g hg. eqb→eq _ _ ((all_holds n _).0 h g hg), λ r. (all_holds n _).1 λ g hg. eq→eqb (r g hg))

module _ {n N : ℕ} {step : ℕ → ℕ → ℕ} where
  pub columns_exact : Table n N step → T (columns_test n N step) ↔ ((back : ℕ → ℕ → ℕ) × Columns n N step back)
  columns_exact t = (
    λ h. (
      back_of_lem N step,
      columns_by_back t λ e g he hg.
          let found = ltb→lt (back_of_lem N step e g) N ((all_holds N _).0 ((all_holds n _).0 h g hg) e he) in
          (found, eqb→eq _ _ (least_holds N _ found)),
    ),
    λ (back, B). (all_holds n _).1 λ g hg. (all_holds N _).1 λ e he.
        lt→ltb (back_of_lem N step e g) N (lt_of_le_of_lt (least_at_most N _ (back e g) (eq→eqb (B.step_back he hg))) (B.closed he hg)),
  )

  pub check_exact : (word : ℕ → List ℕ) → T (check_test n N step word) ↔ Check n N step word
  check_exact word = (
    λ h. record { commutes = λ {s} {g} {x} hs hg hx. eqb→eq _ _ ((all_holds N _).0 ((all_holds n _).0 ((all_holds n _).0 h s hs) g hg) x hx) },
    λ c. (all_holds n _).1 λ s hs. (all_holds n _).1 λ g hg. (all_holds N _).1 λ x hx. eq→eqb (c.commutes hs hg hx),
  )

-- "No group has these right steps" is what the test finds out, whatever the carrier of the group may be.
pub group_test_exact : {n N : ℕ} {step : ℕ → ℕ → ℕ} → Numbered n N step → T (group_test n N step) ↔ SomeGroup n N step
group_test_exact {n} {N} {step} R =
    let t = numbered_table R in
    let e = exact_any (numbered_spelled R) t in
    let c = columns_exact t in
    let k = check_exact {n = n} {N = N} {step = step} (recorded n step) in (
      λ h. let both = (and_holds (columns_test n N step) _).0 h in let b = c.0 both.0 in e.1 (b.0, b.1, k.0 both.1),
      λ g. let b = e.0 g in (and_holds (columns_test n N step) _).1 (c.1 (b.0, b.1), k.1 b.2),
    )
