-- The cell is one of a row that stands in the stretch.
use mathlib.Core.Path.{◌∙◌}
use Rattle.factor_quick_walks.proofs.Numbers.{recorded_inside}
use Rattle.factor_quick_walks.proofs.inner.recorded.Goals as goal

pub read-requires : goal.read-requires
read-requires c = recorded_inside _ c.requires.0 c.start.ensures.at c.requires.1.0 c.requires.1.1

pub returns : goal.returns
returns c = c.read.ensures ∙ rw c.start.ensures.at
