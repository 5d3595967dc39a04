use mathlib.Core.Path.{◌∙◌}
use Rattle.egg.proofs.inner.hop.Goals as goal

pub returns : goal.returns
returns c = c.get.ensures ∙ rw c.hop_at.ensures.at
