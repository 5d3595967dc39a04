-- The address of the cell.
use mathlib.Core.Path.{◌∙◌}
use Rattle.image_check_reading.proofs.inner.table.cell.Goals as goal

pub returns : goal.returns
returns c = c.get.ensures ∙ rw c.start.ensures.at
