-- Refusals 11 and 12 as tests that compute, on the table alone.
use Rattle.std.specs.Prelude.{Bool, ◌&&◌, List, ℕ, suc, ltb, eqb}
use Rattle.theory.specs.Bounded.{all, least}
use Rattle.theory.specs.Table.{generator}
use Rattle.theory.specs.Appearance.{recorded}
use Rattle.theory.specs.Regular.{left}

-- True where refusal 11, "identity row is not 1..n", is not due.
abbrev pub identity_row_test : ℕ → (ℕ → ℕ → ℕ) → Bool
identity_row_test n step = all n λ g. eqb (generator step g) (suc g)

-- The predecessor of e by g, found in the column of g (N if there is none).
abbrev pub back_of_lem : ℕ → (ℕ → ℕ → ℕ) → ℕ → ℕ → ℕ
back_of_lem N step e g = least N (λ x. eqb (step x g) e)

-- True where each column is a permutation, which is so if every element has a predecessor in it.
abbrev pub columns_test : ℕ → ℕ → (ℕ → ℕ → ℕ) → Bool
columns_test n N step = all n λ g. all N λ e. ltb (back_of_lem N step e g) N

-- True where multiplication on the left by each generator commutes with every step, which is the `Check` of Regular.antt: n·n·N tests.
abbrev pub check_test : ℕ → ℕ → (ℕ → ℕ → ℕ) → (ℕ → List ℕ) → Bool
check_test n N step word = all n λ s. all n λ g. all N λ x. eqb (left step word s (step x g)) (step (left step word s x) g)

-- Both tests, with the recorded words: a numbered table passes exactly when some group has it (`group_test_exact`).
abbrev pub group_test : ℕ → ℕ → (ℕ → ℕ → ℕ) → Bool
group_test n N step = columns_test n N step && check_test n N step (recorded n step)
