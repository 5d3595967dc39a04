-- How a row is filled, to be read beside todd_coxeter.rs (000): "a row moves its right end back, then its left end forward".
use Rattle.std.specs.Prelude.{ℕ, zero, suc, ◌+◌, ◌-◌, List, ◌==◌, slice_index}
use Rattle.egg.specs.Table.{pick, succ_at, pred_at}
use Rattle.enumeration_rows.specs.declared.inner.RelationTableRow.{RelationTableRow}
use Rattle.enumeration_rows.specs.Rows.{gen_of, row_of}

-- The cell of the step back that a row waits for on the right of its gap: 0 where the step is not known, else the element's number + 1.
abbrev pub right_cell : List ℕ → ℕ → RelationTableRow → ℕ
right_cell t n r = slice_index t (pred_at n r.to (gen_of r.pair r.right))

-- The cell of the step that it waits for on the left of its gap.
abbrev pub left_cell : List ℕ → ℕ → RelationTableRow → ℕ
left_cell t n r = slice_index t (succ_at n r.from (gen_of r.pair r.left))

-- The first loop of 000's `fill`: the right end goes back while its step back is known, at most k times.
unfoldable pub back_from : ℕ → List ℕ → ℕ → RelationTableRow → RelationTableRow
back_from zero t n r = r
back_from (suc k) t n r =
    pick (right_cell t n r == 0) r
    (back_from k t n (row_of r.pair r.left (r.right - 1) r.from (record { 0 = right_cell t n r - 1 })))

-- The second loop of 000's `fill`: the left end goes forward while its step is known, at most k times.
unfoldable pub forward_from : ℕ → List ℕ → ℕ → RelationTableRow → RelationTableRow
forward_from zero t n r = r
forward_from (suc k) t n r =
    pick (left_cell t n r == 0) r
    (forward_from k t n (row_of r.pair (r.left + 1) r.right (record { 0 = left_cell t n r - 1 }) r.to))

-- The whole first loop. It runs while left index < right index, so the width of the gap is the most that it can turn.
abbrev pub backed : List ℕ → ℕ → RelationTableRow → RelationTableRow
backed t n r = back_from (r.right - r.left) t n r

-- The whole second loop.
abbrev pub forwarded : List ℕ → ℕ → RelationTableRow → RelationTableRow
forwarded t n r = forward_from (r.right - r.left) t n r

-- 000's `fill`: "a row moves its right end back, then its left end forward".
unfoldable pub filled : List ℕ → ℕ → RelationTableRow → RelationTableRow
filled t n r = forwarded t n (backed t n r)
