use Rattle.std.proofs.Common.{◌∙◌}
use Rattle.enumeration_fill.specs.Fill.{filled}
use Rattle.enumeration_fill.proofs.inner.fill.Goals as goal

pub returns : goal.returns
unfolding filled
returns c = c.forward.ensures ∙ rw c.back.ensures
