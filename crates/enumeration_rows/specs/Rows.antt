-- Relation rows and their waiting lists, as a list of numbers, to be read beside todd_coxeter.rs (000). The head of src/inner.rt says what rows,
-- copies and places are. Document 01: "one pool with links in the work buffer, keeping waiting order".
use Rattle.std.specs.Prelude.{ℕ, zero, suc, ◌+◌, ◌*◌, ◌-◌, ◌/◌, ◌%◌, ◌≤◌, ◌<◌, List, get_or, length, eqb}
use Rattle.egg.specs.declared.GroupElementId.{GroupElementId}
use Rattle.egg.specs.declared.GeneratorId.{GeneratorId}
use Rattle.egg.specs.Pairs.{pair_code}
use Rattle.egg.specs.Table.{pick, put_at, work_of}
use Rattle.enumeration_rows.specs.declared.inner.RelationTableRow.{RelationTableRow}
use Rattle.enumeration_rows.specs.declared.inner.SideOfGap.{SideOfGap}
use Rattle.enumeration_rows.specs.declared.inner.SideOfGap.TheVariants.{Left, Right}

-- How many numbers of work an element has (`work_of`), under a name that proofs leave folded: no law about an address asks for more than its parts.
unfoldable pub work_width : ℕ → ℕ
work_width n = work_of n

-- The place of an element and a generator, ten numbers: head, tail and count of the left list, head, tail and count of the right list, the link of
-- the fact stack, and three spare ones, with which places and rows come to exactly that width.
unfoldable pub place_at : ℕ → GroupElementId → GeneratorId → ℕ
place_at n e g = e.0 * work_width n + 10 * g.0

-- Where the rows of an element start, after its places: for each pair a left copy and a right copy, six numbers each.
unfoldable pub rows_at : ℕ → GroupElementId → ℕ
rows_at n e = e.0 * work_width n + 10 * n

-- 000's `generator`: the generators of the pair (a, b), kept as 8a + b, alternate along the row.
abbrev pub gen_of : ℕ → ℕ → GeneratorId
gen_of pair index = pick (eqb (index % 2) 0) (record { 0 = pair / 8 % 8 }) (record { 0 = pair % 8 })

-- 000's `RelationTableRow`: the pair, the columns on the left and the right of the gap (`left_index`, `right_index`), and the elements there
-- (`left_element`, `right_element`).
abbrev pub row_of : (pair left right : ℕ) (from to : GroupElementId) → RelationTableRow
row_of pair left right from to = record { pair = pair; left = left; right = right; from = from; to = to }

-- The row that is stored at `at`: these five numbers. The link to the copy that waits after it stands behind them.
unfoldable pub stored_row : List ℕ → ℕ → RelationTableRow
stored_row w at =
    row_of (get_or w at 0) (get_or w (at + 1) 0) (get_or w (at + 2) 0) (record { 0 = get_or w (at + 3) 0 })
    (record { 0 = get_or w (at + 4) 0 })

-- The work with a row stored at `at`.
unfoldable pub write_row : List ℕ → ℕ → RelationTableRow → List ℕ
write_row w at r =
    put_at
    (put_at
    (put_at (put_at (put_at w at r.pair) (at + 1) r.left) (at + 2) r.right)
    (at + 3)
    r.from.0)
    (at + 4)
    r.to.0

-- Where the link to a new last copy goes: to the head of an empty list, else to the last copy's link.
abbrev pub link_at : ℕ → ℕ → ℕ
link_at list tail = pick (eqb tail 0) list (tail + 4)

-- The work with the copy at `at` put at the end of the list whose head, tail and count stand at `list`. A link is a position + 1; 0 ends a list.
unfoldable pub appended : List ℕ → ℕ → ℕ → List ℕ
appended w list at =
    put_at
    (put_at (put_at (put_at w (at + 5) 0) (link_at list (get_or w (list + 1) 0)) (at + 1)) (list + 1) (at + 1))
    (list + 2)
    (get_or w (list + 2) 0 + 1)

-- The list in which a row waits. A new row waits "on the left under (element, first generator), on the right under (element, second)"; later it waits
-- under the elements and generators at its gap.
abbrev pub list_at : ℕ → RelationTableRow → SideOfGap → ℕ
list_at n r Left = place_at n r.from (gen_of r.pair r.left)
list_at n r Right = place_at n r.to (gen_of r.pair r.right) + 3

-- 000's `add_row_left` and `add_row_right`: the copy is stored at `at`, and put at the end of its list.
unfoldable pub waits : (w : List ℕ) (n at : ℕ) (r : RelationTableRow) (side : SideOfGap) → List ℕ
waits w n at r side = appended (write_row w at r) (list_at n r side) at

-- 000's `new_row`: "A row has 2m places"; its columns are 0 to 2m - 1, and the element stands at both ends.
abbrev pub new_row : GroupElementId → ℕ → ℕ → RelationTableRow
new_row e pair order = row_of pair 0 (order * 2 - 1) e e

-- 000's `add_row`: a row waits twice, in two copies, the right copy after the left.
unfoldable pub added_row : (w : List ℕ) (n : ℕ) (e : GroupElementId) (at pair order : ℕ) → List ℕ
added_row w n e at pair order =
    waits (waits w n at (new_row e pair order) Left) n (at + 6) (new_row e pair order) Right

-- "Each element starts a row per pair": the rows of f pairs from place k on, for the orders o in list order.
unfoldable pub add_rows_from : (f : ℕ) (w o : List ℕ) (n : ℕ) (e : GroupElementId) (k : ℕ) → List ℕ
add_rows_from zero w o n e k = w
add_rows_from (suc f) w o n e k =
    add_rows_from f (added_row w n e (rows_at n e + 12 * k) (pair_code k) (get_or o k 0)) o n e (k + 1)

-- The work with the rows of all pairs at a new element.
abbrev pub added_rows : List ℕ → List ℕ → ℕ → GroupElementId → List ℕ
added_rows w o n e = add_rows_from (length o) w o n e 0

-- What is needed here of the list of orders: at most 28 of them, each from 1 to 32,767. Refusals 1 to 3 have shown more.
abbrev pub Orders : List ℕ → Type 0
Orders o = (length o ≤ 28) × ((k : ℕ) → k < length o → (1 ≤ get_or o k 0) × (get_or o k 0 < 32768))
