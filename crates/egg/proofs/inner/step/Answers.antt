use mathlib.Core.Path.{◌∙◌}
use Rattle.egg.proofs.inner.step.Goals as goal

pub returns : goal.returns
returns c = c.element.ensures ∙ rw (c.get.ensures, c.start.ensures.at)
