-- This file states what `build` answers for some builders whose steps were overwritten or altered; each is made by the calls that make a builder.
use Rattle.std.specs.Prelude.{ℕ, ◌+◌, ◌≡◌, List, [], ◌∷◌, replicate, set}
use Rattle.egg.specs.Answers.{Verdict, fine}
use Rattle.egg.specs.Scan.{refused_of}
use Rattle.egg.specs.Factor.{refused_reach}
use Rattle.std.specs.Prelude.{Err}
use Rattle.egg.specs.Answers.{numbered, answer_of}
use Rattle.builder.specs.declared.Builder.{Builder}
use Rattle.build_lending.specs.Lending.{table_need, work_need}
use Rattle.builder.specs.Calls.{leaving, builder_of, begins, grows, stores, builds}
use Rattle.promises_refusals.specs.Parts.{made_by}
use Rattle.promises_builder.specs.Calls.{begun_builder}

-- A builder, and the table that holds it and nothing else.
pub record Building : Type 0 where
  pub table : List ℕ
  pub builder : Builder

-- A build begun, in a table of sevens.
abbrev pub begun_with : ℕ → ℕ → Building
begun_with n room = elim (begins (replicate (table_need n room) 7) 0 room n) [ leaving x t ↦ record { table = t; builder = begun_builder x } ]

-- The builder after an element was added, reached from e by g.
abbrev pub adding : ℕ → ℕ → Building → Building
adding e g b =
    elim (grows b.table b.builder (record { 0 = e }) (record { 0 = g })) [ leaving x t ↦ record { table = t; builder = x.builder } ]

-- The builder after the step from e by g was set to r.
abbrev pub setting : ℕ → ℕ → ℕ → Building → Building
setting e g r b = elim (stores b.table b.builder (record { 0 = e }) (record { 0 = g }) (record { 0 = r })) [ leaving x t ↦ record { table = t; builder = b.builder } ]

-- The same builder, but a cell of its table was altered by the table's owner.
abbrev pub altering : ℕ → ℕ → Building → Building
altering i x b = record { table = set b.table i x; builder = b.builder }

-- The verdict of `build` with a work that is just long enough.
abbrev pub build_answer : Building → Verdict
build_answer b = answer_of (made_by (builds b.table b.builder (replicate (work_need b.builder.0.generators b.builder.0.room) 7)))

-- The builder after all steps of two generators were set, row by row.
abbrev pub setting_rows : List ℕ → ℕ → Building → Building
setting_rows (x ∷ y ∷ rows) e b = setting_rows rows (e + 1) (setting e 1 y (setting e 0 x b))
setting_rows (x ∷ []) e b = b
setting_rows [] e b = b

-- The cases, each with its answer.
pub record Cases : Type 0 where
  -- Z3 with its elements added in another order than they stand in the rows: it is taken, with the numbers as they stand.
  pub z3 : build_answer (setting_rows (1 ∷ 2 ∷ 2 ∷ 0 ∷ 0 ∷ 1 ∷ []) 0 (adding 0 0 (adding 0 1 (begun_with 2 3)))) ≡ fine
  -- S3 with an element that skips ahead: 7 at (1,1) with 4.
  pub s3_skips : build_answer (setting_rows (1 ∷ 2 ∷ 0 ∷ 4 ∷ 3 ∷ 0 ∷ 2 ∷ 5 ∷ 5 ∷ 1 ∷ 4 ∷ 3 ∷ []) 0
      (adding 4 0 (adding 1 1 (adding 2 0 (adding 0 1 (adding 0 0 (begun_with 2 6))))))) ≡ refused_of 7 1 1 4
  -- Z2 with a successor altered to one that is no element's: 17.
  pub beyond : build_answer (altering 0 4 (setting 1 0 0 (adding 0 0 (begun_with 1 2)))) ≡ refused_of 17 0 0 0
  -- The same, to a number that is one too high: the step is not set, by 17, and the table is as it was.
  pub set_beyond : stores (altering 0 3 (adding 0 0 (begun_with 1 2))).table (builder_of 0 2 1 2) (record { 0 = 0 }) (record { 0 = 0 }) (record { 0 = 1 })
      ≡ leaving (Err (numbered 17 0 0 0)) (altering 0 3 (adding 0 0 (begun_with 1 2))).table
  -- A step missing: 8 at its place.
  pub no_successor : build_answer (adding 0 0 (begun_with 1 2)) ≡ refused_of 8 1 0 0
  -- A chain of three whose last element was cut off: it is not reached, so its row is not read, and its successor is missing.
  pub unreached : build_answer (setting 2 0 2 (setting 1 0 0 (adding 1 0 (adding 0 0 (begun_with 1 3))))) ≡ refused_of 8 2 0 0
  -- The same where the identity has no predecessor: the successor comes first.
  pub unreached_first : build_answer (setting 1 0 1 (adding 1 0 (adding 0 0 (begun_with 1 3)))) ≡ refused_of 8 2 0 0
  -- A recorded length altered to 4,097: a new element is refused by 17, and the stretch is zero.
  pub long_word : grows (altering 4 4097 (begun_with 1 2)).table (builder_of 0 2 1 1) (record { 0 = 0 }) (record { 0 = 0 })
      ≡ leaving (record { answer = refused_reach 17 0; builder = builder_of 0 0 0 0 }) (replicate (table_need 1 2) 0)
