use mathlib.Core.Path.{◌∙◌}
use Rattle.enumeration_rows.specs.Rows.{waits, added_row}
use Rattle.enumeration_rows.proofs.inner.add_row.Goals as goal

pub returns : goal.returns
unfolding waits added_row
returns c = c.append-2.ensures ∙ rw (c.list_at-2.ensures.at, c.write_row-2.ensures, c.append.ensures, c.list_at.ensures.at, c.write_row.ensures)
