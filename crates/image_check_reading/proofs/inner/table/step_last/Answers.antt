-- What the calls ensure, from the last to the first.
use mathlib.Core.Path.{◌∙◌}
use Rattle.image_check_reading.proofs.inner.table.step_last.Goals as goal

pub returns : goal.returns
returns c = c.element.ensures ∙ rw (c.get.ensures, c.last.ensures, c.start.ensures.at)
