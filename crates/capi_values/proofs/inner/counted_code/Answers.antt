-- By cases on the answer.
use mathlib.Core.Path.{◌∙◌}
use Rattle.capi_values.proofs.inner.counted_code.Goals as goal

pub returns-in-Err : goal.returns-in-Err
returns-in-Err c = c.refusal_code.ensures ∙ rw c.in-Err.is
