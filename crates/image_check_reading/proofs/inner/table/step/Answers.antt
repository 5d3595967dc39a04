-- The cell's number, read as an element.
use mathlib.Core.Path.{◌∙◌}
use Rattle.image_check_reading.proofs.inner.table.step.Goals as goal

pub returns : goal.returns
returns c = c.element.ensures ∙ rw (c.get.ensures, c.start.ensures.at)
