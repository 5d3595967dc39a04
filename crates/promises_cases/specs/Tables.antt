-- This file has tables of document 01's known groups, beside those of S3 and of the crossed case, which stand in the theory's examples, and the calls
-- on them. Rows stand one after the other. Buffers are lent full of other numbers, and exactly as long as needed.
use Rattle.std.specs.Prelude.{ℕ, zero, suc, ◌+◌, List, [], ◌∷◌, replicate}
use Rattle.theory.specs.Examples.{s3_rows}
use Rattle.egg.specs.declared.Factor.{Factor}
use Rattle.egg.specs.Answers.{Made}
use Rattle.std.specs.Prelude.{Ok}
use Rattle.egg.specs.Factor.{Paper}
use Rattle.egg.specs.Table.{inverse_of}
use Rattle.build_lending.specs.Lending.{table_need, work_need, Making}
use Rattle.factor.specs.Composed.{composed}
use Rattle.enumeration.specs.Calls.{enumerates}
use Rattle.promises_refusals.specs.Papers.{paper}
use Rattle.promises_refusals.specs.Parts.{table_by}
use Rattle.group_handles.specs.declared.Group.{Group}
use Rattle.group_handles.specs.Handles.{group_of}

-- "orders [2]: rows 1 2 / 0 3 / 3 0 / 2 1".
abbrev pub four_group : List ℕ
four_group = 1 ∷ 2 ∷ 0 ∷ 3 ∷ 3 ∷ 0 ∷ 2 ∷ 1 ∷ []

-- The group of two elements.
abbrev pub z2 : List ℕ
z2 = 1 ∷ 0 ∷ []

-- "Z3, rows 1 / 2 / 0".
abbrev pub z3 : List ℕ
z3 = 1 ∷ 2 ∷ 0 ∷ []

-- "rows 1 2 / 3 3 / 0 0 / 2 1", which 10 refuses.
abbrev pub twisted : List ℕ
twisted = 1 ∷ 2 ∷ 3 ∷ 3 ∷ 0 ∷ 0 ∷ 2 ∷ 1 ∷ []

-- "rows 1 1 / 0 0", which 11 refuses.
abbrev pub repeated : List ℕ
repeated = 1 ∷ 1 ∷ 0 ∷ 0 ∷ []

-- "image of Z2: 00 00 00 08 01 01 00 02 00 01 00 00".
abbrev pub z2_image : List ℕ
z2_image = 0 ∷ 0 ∷ 0 ∷ 8 ∷ 1 ∷ 1 ∷ 0 ∷ 2 ∷ 0 ∷ 1 ∷ 0 ∷ 0 ∷ []

-- "no generators: one element, image 00 00 00 04 01 00 00 01".
abbrev pub none_image : List ℕ
none_image = 0 ∷ 0 ∷ 0 ∷ 4 ∷ 1 ∷ 0 ∷ 0 ∷ 1 ∷ []

-- The call on rows of n numbers, with this room.
abbrev pub rows : ℕ → ℕ → List ℕ → Making
rows n room r = composed (replicate (table_need n room) 7) 0 (replicate (work_need n room) 9) r n room

-- The call on n generators and these pair orders, with this room.
abbrev pub orders : ℕ → ℕ → List ℕ → Making
orders n room o = enumerates (replicate (table_need n room) 7) 0 (replicate (work_need n room) 9) o n room

-- The handle of a factor of so many elements at the buffer's start.
abbrev pub factor_of : ℕ → ℕ → ℕ → Factor
factor_of n room count = record { start = 0; room = room; generators = n; elements = count }

-- The answer of an accepted call, with that handle.
abbrev pub accepted_as : ℕ → ℕ → ℕ → Made
accepted_as n room count = Ok (factor_of n room count)

-- A question's answer on paper, where it is not refused.
abbrev pub answer : ℕ → Paper
answer k = paper 0 k 0 0

-- The inverses of k elements from e on.
abbrev pub inverses_of : ℕ → List ℕ → ℕ → ℕ → List ℕ
inverses_of zero t n e = []
inverses_of (suc k) t n e = inverse_of t n e ∷ inverses_of k t n (e + 1)

-- S3 and Z2 in one table buffer: S3 in the first 48 numbers, Z2 in the 12 after them.
abbrev pub both : List ℕ
both = table_by (composed (table_by (composed (replicate 60 7) 0 (replicate 192 9) s3_rows 2 6)) 48 (replicate 20 9) z2 1 2)

-- S3 as a product of one factor.
abbrev pub S3 : Group
S3 = group_of (factor_of 2 6 6 ∷ [])

-- The product S3 by Z2.
abbrev pub S3_Z2 : Group
S3_Z2 = group_of (factor_of 2 6 6 ∷ record { start = 48; room = 2; generators = 1; elements = 2 } ∷ [])
