-- Both arrays have eight places, and the same count of them is listed.
use mathlib.Core.Path.{◌∙◌}
use Rattle.names_joined.proofs.Turns.{fronts_alike}
use Rattle.names_joined.proofs.inner.names_listed.Goals as goal

pub returns : goal.returns
returns c = (
  c.listed.ensures.0
      ∙ fronts_alike
      c.args.g.group.count
      c.args.g.group.factors
      c.args.g.names
      c.well_formed.0.1.1.0.1.1.0.1.0.1
      c.well_formed.0.1.1.1.0.1.0.1,
  c.listed.ensures.1,
)
