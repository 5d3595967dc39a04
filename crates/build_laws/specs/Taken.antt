-- Which numbers a build takes, from whatever source they come, and what its stretch of table holds then; and which numbers are refused by 12.
use Rattle.std.specs.Prelude.{ℕ, ◌+◌, ◌*◌, ◌≤◌, ◌<◌, ◌≡◌, List, length, get_or}
use Rattle.egg.specs.Table.{step_of}
use Rattle.build_word_cells.specs.Hops.{Hops}
use Rattle.theory.specs.Numbering.{IdentityRow}
use Rattle.theory.specs.Appearance.{recorded}
use Rattle.theory.specs.AnyGroup.{SomeGroup}
use Rattle.build_checks_laws.specs.Sound.{Sound, Ruled}
use Rattle.build_checks_laws.specs.Until12.{Until12}
use Rattle.build_reading_laws.specs.Read.{Readable}

-- What is accepted: numbers that follow the numbering rule with N elements within the room and no recorded word over 4,096 (`Readable`), with
-- identity row 1..n, and that are the right steps of some group, whatever its type of elements.
pub record Taken (src : ℕ → ℕ → ℕ) (n room N : ℕ) : Type 1 where
  pub readable : Readable src n room N
  pub identity_row_lem : IdentityRow n src
  pub group : SomeGroup n N src

-- Where 12 is given, "no group has these right steps": the numbers follow the numbering rule with N elements within the room and no recorded word
-- over 4,096, so that reading takes them; 8 to 11 pass for them and their recorded words; and they are the right steps of no group, whatever its type
-- of elements.
pub record Groupless (src : ℕ → ℕ → ℕ) (n room N : ℕ) : Type 1 where
  pub readable : Readable src n room N
  pub back : ℕ → ℕ → ℕ
  pub until_12 : Until12 n N src back (recorded n src)
  pub no_group_lem : ¬ SomeGroup n N src

-- What a stretch of `size` numbers holds after acceptance: a sound table by the numbering rule, whose steps are the source's, with the last five
-- letters of each word in one cell, and zeros beyond its last row.
pub record Holding (src : ℕ → ℕ → ℕ) (n room size N : ℕ) (t : List ℕ) : Type 1 where
  pub taken : Taken src n room N
  pub sound : Sound t n N
  pub ruled : Ruled t n N
  pub hops : Hops t n N
  pub size_kept : length t ≡ size
  pub steps : {e g : ℕ} → e < N → g < n → step_of t n e g ≡ src e g
  pub beyond : {i : ℕ} → N * (2 * n + 4) ≤ i → get_or t i 0 ≡ 0
