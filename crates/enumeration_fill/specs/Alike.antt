-- Rows that stand alike move alike, so that a list of rows can be woken with one filling for all of them. 000 has nothing of the kind; what waking a
-- list comes to is defined without it.
use Rattle.std.specs.Prelude.{◌≡◌, ℕ, ◌+◌, ◌-◌, ◌%◌, ◌<◌, List}
use Rattle.enumeration_rows.specs.declared.inner.RelationTableRow.{RelationTableRow}
use Rattle.enumeration_rows.specs.Rows.{row_of}
use Rattle.enumeration_fill.specs.Fill.{filled}

-- The row b is filled to the row a, and its ends have not met.
pub record Moves (t : List ℕ) (n : ℕ) (b a : RelationTableRow) : Type 0 where
  pub filling : a ≡ filled t n b
  pub apart : a.left < a.right

-- By how many columns its left end went forward.
abbrev pub forth : RelationTableRow → RelationTableRow → ℕ
forth b a = a.left - b.left

-- By how many columns its right end went back.
abbrev pub backward : RelationTableRow → RelationTableRow → ℕ
backward b a = b.right - a.right

-- The row r stands as b does: it has the same pair, and the same elements and generators on both sides of its gap, which is wider than so many
-- columns.
pub record Alike (r b : RelationTableRow) (columns : ℕ) : Type 0 where
  pub pairs : r.pair ≡ b.pair
  pub froms : r.from.0 ≡ b.from.0
  pub tos : r.to.0 ≡ b.to.0
  pub lefts : r.left % 2 ≡ b.left % 2
  pub rights : r.right % 2 ≡ b.right % 2
  pub wide : r.left + columns < r.right

-- What such a row r is filled to, where b is filled to a.
abbrev pub moved_alike : RelationTableRow → RelationTableRow → RelationTableRow → RelationTableRow
moved_alike r b a = row_of r.pair (r.left + forth b a) (r.right - backward b a) a.from a.to
