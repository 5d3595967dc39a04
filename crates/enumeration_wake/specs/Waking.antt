-- A new step, and the copies of rows that it wakes, as a machine over the table and the work, to be read beside todd_coxeter.rs (000). A new step is
-- called a fact; facts that are still to be taken stand on a stack, by the places of their elements and generators.
use Rattle.std.specs.Prelude.{ℕ, zero, suc, ◌+◌, ◌-◌, ◌%◌, List, ◌==◌, slice_index}
use Rattle.egg.specs.declared.GroupElementId.{GroupElementId}
use Rattle.egg.specs.declared.GeneratorId.{GeneratorId}
use Rattle.egg.specs.Table.{pick, put_at}
use Rattle.build_reading.specs.Build.{is_new, set_step}
use Rattle.enumeration_rows.specs.declared.inner.RelationTableRow.{RelationTableRow}
use Rattle.enumeration_rows.specs.declared.inner.SideOfGap.{SideOfGap}
use Rattle.enumeration_rows.specs.Rows.{place_at, gen_of, stored_row, waits}
use Rattle.enumeration_fill.specs.Fill.{filled}

-- What the machine works on: the table, the work, and the top of the stack of facts, which is the link of a place, or 0 for an empty stack.
pub record State : Type 0 where
  pub table : List ℕ
  pub work : List ℕ
  pub top : ℕ

-- The state with this table, work and top.
abbrev pub state : List ℕ → List ℕ → ℕ → State
state t w top = record { table = t; work = w; top = top }

-- The link of a place: the place + 1, within the 32 bits of a cell.
abbrev pub link : ℕ → GroupElementId → GeneratorId → ℕ
link n e g = (place_at n e g + 1) % 4294967296

-- Where the place of a fact keeps the link of the fact below it on the stack.
abbrev pub below_at : ℕ → ℕ
below_at place = place + 6

-- 000's `if g.set_successor(..)`: the step e·g = r and the step back are set; where it was not known, it is a fact and goes on the stack.
unfoldable pub learns : (n : ℕ) (e : GroupElementId) (g : GeneratorId) (r : GroupElementId) (s : State) → State
learns n e g r s =
    state (set_step s.table n e g r)
    (pick (is_new s.table n e g) (put_at s.work (below_at (place_at n e g)) s.top) s.work)
    (pick (is_new s.table n e g) (link n e g) s.top)

-- What a row gives whose ends have met: "when they meet it gives one successor, set both ways", first left·g = right, then its inverse right·g =
-- left.
abbrev pub gives : ℕ → RelationTableRow → State → State
gives n r s =
    learns n r.to (gen_of r.pair r.left) r.from
    (learns n r.from (gen_of r.pair r.left) r.to s)

-- 000's `match row.fill(g)`: what a filled row gives where its ends have met; else the copy at `at` waits again, on the side from which it was woken.
unfoldable pub woken : (n at : ℕ) (side : SideOfGap) (r : RelationTableRow) (s : State) → State
woken n at side r s =
    pick (r.left == r.right) (gives n r s) (state s.table (waits s.work n at r side) s.top)

-- What waking the copy at `at` comes to: its row is filled, and gives a step or waits again.
unfoldable pub wakes : ℕ → ℕ → SideOfGap → State → State
wakes n at side s = woken n at side (filled s.table n (stored_row s.work at)) s

-- What waking a list comes to: its copies from a link on, at most k of them, "in waiting order". The link to the next is read before a copy is woken;
-- 0 ends a list.
unfoldable pub wakes_all : (k n at : ℕ) (side : SideOfGap) (s : State) → State
wakes_all zero n at side s = s
wakes_all (suc k) n at side s =
    pick (at == 0) s (wakes_all k n (slice_index s.work (at - 1 + 5)) side (wakes n (at - 1) side s))
