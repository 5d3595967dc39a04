use mathlib.Core.Path.{◌∙◌}
use Rattle.enumeration_rows.specs.Rows.{appended}
use Rattle.enumeration_rows.proofs.inner.append.Goals as goal

pub returns : goal.returns
unfolding appended
returns c = c.put-4.ensures ∙ rw (c.put-3.ensures, c.put-2.ensures, c.put.ensures, c.link_at-link.ensures, c.get.ensures, c.get-count.ensures)
