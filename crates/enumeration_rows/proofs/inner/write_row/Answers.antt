use Rattle.enumeration_rows.proofs.Laws.{stored_row_lem}
use Rattle.enumeration_rows.specs.Rows.{write_row}
use lib.ListN.{length-set}
use native.Mathlib.Omega.{arith}
use mathlib.Core.Path.{◌∙◌}
use Rattle.enumeration_rows.proofs.inner.write_row.Goals as goal

pub bounds-w-at-then-at-w : goal.bounds-w-at-then-at-w
bounds-w-at-then-at-w c = simp length-set (omega (arith, c.if-at-w.true))

pub bounds-w-at-then-at-w-2 : goal.bounds-w-at-then-at-w-2
bounds-w-at-then-at-w-2 c = simp length-set (omega (arith, c.if-at-w.true))

pub bounds-w-at-then-at-w-3 : goal.bounds-w-at-then-at-w-3
bounds-w-at-then-at-w-3 c = simp length-set (omega (arith, c.if-at-w.true))

pub bounds-w-at-then-at-w-4 : goal.bounds-w-at-then-at-w-4
bounds-w-at-then-at-w-4 c = simp length-set (omega (arith, c.if-at-w.true))

pub returns-then-at-w : goal.returns-then-at-w
returns-then-at-w c = stored_row_lem (c.args.w.now) (c.args.at) (c.args.row) (omega arith) (omega arith) (omega arith) (omega arith) (omega arith)

pub returns : goal.returns
unfolding write_row
returns c = c.put-5.ensures ∙ rw (c.put-4.ensures, c.put-3.ensures, c.put-2.ensures, c.put.ensures)
