-- Two tables of document 01, as rows one after the other and as steps: a group's, and one that follows the numbering rule and is no group's.
use Rattle.std.specs.Prelude.{ℕ, List, [], ◌∷◌}
use Rattle.theory.specs.Table.{entry}

-- "orders [3] (S3): rows 1 2 / 0 3 / 4 0 / 5 1 / 2 5 / 3 4".
abbrev pub s3_rows : List ℕ
s3_rows = 1 ∷ 2 ∷ 0 ∷ 3 ∷ 4 ∷ 0 ∷ 5 ∷ 1 ∷ 2 ∷ 5 ∷ 3 ∷ 4 ∷ []

-- The steps of S3, the group of orders [3].
abbrev pub s3 : ℕ → ℕ → ℕ
s3 = entry s3_rows 2

-- "the crossed table, four generators, 16 rows", with four rows to a line.
abbrev pub crossed_rows : List ℕ
crossed_rows =
    1 ∷ 2 ∷ 3 ∷ 4 ∷ 0 ∷ 5 ∷ 6 ∷ 7 ∷ 5 ∷ 0 ∷ 8 ∷ 9 ∷ 6 ∷ 8 ∷ 0 ∷ 10
    ∷ 7 ∷ 9 ∷ 10 ∷ 0 ∷ 2 ∷ 1 ∷ 11 ∷ 12 ∷ 3 ∷ 12 ∷ 1 ∷ 13 ∷ 4 ∷ 11 ∷ 13 ∷ 1
    ∷ 11 ∷ 3 ∷ 2 ∷ 14 ∷ 12 ∷ 4 ∷ 14 ∷ 2 ∷ 13 ∷ 14 ∷ 4 ∷ 3 ∷ 8 ∷ 7 ∷ 5 ∷ 15
    ∷ 9 ∷ 6 ∷ 15 ∷ 5 ∷ 10 ∷ 15 ∷ 7 ∷ 6 ∷ 15 ∷ 10 ∷ 9 ∷ 8 ∷ 14 ∷ 13 ∷ 12 ∷ 11 ∷ []

-- The steps of the crossed table.
abbrev pub crossed : ℕ → ℕ → ℕ
crossed = entry crossed_rows 4
