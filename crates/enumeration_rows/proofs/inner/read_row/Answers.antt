use mathlib.Core.Path.{refl}
use Rattle.enumeration_rows.specs.Rows.{stored_row}
use Rattle.enumeration_rows.proofs.inner.read_row.Goals as goal

pub returns-then-at-w : goal.returns-then-at-w
unfolding stored_row
returns-then-at-w c = refl

pub returns : goal.returns
unfolding stored_row
returns c = rw (c.get.ensures, c.get-2.ensures, c.get-3.ensures, c.get-4.ensures, c.get-5.ensures)
