-- The answer of the read step decides.
use Rattle.egg.proofs.Refusing.{handed_on}
use mathlib.Core.Path.{◌∙◌}
use Rattle.image_writing.proofs.WriteLaws.{step_refused, step_read_lem}
use Rattle.image_writing.proofs.inner.known.Goals as goal

pub returns-in_err-next : goal.returns-in_err-next
returns-in_err-next c = handed_on c.from_residual.ensures ∙ step_refused c.next.ensures c.in_err-next.was

pub returns : goal.returns
returns c = step_read_lem c.next.ensures c.in_ok-next.was
