-- What an accepted table is: what its checks say of it, and that its numbers follow the numbering rule.
use Rattle.std.specs.Prelude.{ℕ, suc, ◌<◌, ◌≤◌, ◌≡◌, List}
use Rattle.egg.specs.Table.{parent_of, last_of, length_of, inverse_of, step_of, back_of}
use Rattle.theory.specs.Table.{Table, Columns}
use Rattle.theory.specs.Words.{Parents, Recorded, Spelled}
use Rattle.theory.specs.Numbering.{NumberingRule}
use Rattle.theory.specs.Appearance.{FirstAppearance}
use Rattle.theory.specs.Regular.{inverse, Check}
use Rattle.build_checks_laws.specs.Stored.{StoredTable, word_of}

-- What checks 8 to 12 say of the first N rows of t: a table whose columns are permutations, in which the words recorded by parent and last generator lead
-- to their elements; multiplication on the left by a generator commutes with every step, which is what 12, "no group has these right steps", decides;
-- the identity row is 1..n (11); no recorded word passes 4,096; and "the inverse follows the reversed word through predecessors from the identity".
pub record Sound (t : List ℕ) (n N : ℕ) : Type 0 where
  pub table : Table n N (step_of t n)
  pub parents : Parents n N (step_of t n) (parent_of t n) (last_of t n)
  pub recorded : Recorded N (parent_of t n) (last_of t n) (word_of t n)
  pub spelled : Spelled n N (step_of t n) (word_of t n)
  pub columns : Columns n N (step_of t n) (back_of t n)
  pub check : Check n N (step_of t n) (word_of t n)
  pub identity_row_lem : {g : ℕ} → g < n → step_of t n 0 g ≡ suc g
  pub stored : StoredTable t n N (step_of t n) (back_of t n) (parent_of t n) (last_of t n) (word_of t n)
  pub short : {e : ℕ} → e < N → length_of t n e ≤ 4096
  pub inverses : {e : ℕ} → e < N → inverse_of t n e ≡ inverse (back_of t n) (word_of t n) e

-- The elements are numbered by the rule: "at (e,g), in order, a number below the count is set, the count itself is a new element, more is 7. That
-- numbering, with identity row 1..n, is the numbering rule"; and "each element's word is its parent's word and one generator", those of the place
-- where the element first appears. The identity, whose word is empty, has zeros for both.
pub record Ruled (t : List ℕ) (n N : ℕ) : Type 0 where
  pub rule : NumberingRule n N (step_of t n)
  pub appearance : FirstAppearance n N (step_of t n) (parent_of t n) (last_of t n)
  pub no_parent : parent_of t n 0 ≡ 0
  pub no_last : last_of t n 0 ≡ 0
