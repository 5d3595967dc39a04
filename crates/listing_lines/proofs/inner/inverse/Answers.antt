-- The cell at the inverse's place.
use mathlib.Core.Path.{◌∙◌}
use Rattle.listing_lines.proofs.inner.inverse.Goals as goal

pub returns : goal.returns
returns c = c.get.ensures ∙ rw c.inverse_at.ensures.at
