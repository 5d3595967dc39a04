use mathlib.Core.Path.{◌∙◌}
use Rattle.enumeration_rows.specs.Rows.{waits}
use Rattle.enumeration_rows.proofs.inner.wait.Goals as goal

pub returns : goal.returns
unfolding waits
returns c = c.append.ensures ∙ rw (c.write_row.ensures, c.list_at.ensures.at)
