use mathlib.Core.Path.{◌∙◌}
use Rattle.egg.proofs.inner.word_length.Goals as goal

pub returns : goal.returns
returns c = c.get.ensures ∙ rw c.start.ensures.at
