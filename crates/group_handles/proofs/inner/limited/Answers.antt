-- The capped count is within 32 bits just if the count is.
use mathlib.Core.Path.{sym}
use Rattle.group_handles.proofs.Admitted.{limited_many, limited_elements}
use Rattle.group_handles.proofs.inner.limited.Goals as goal

pub returns-then-g-gt8 : goal.returns-then-g-gt8
returns-then-g-gt8 c = sym (limited_many c.args.g c.if-g-gt8.true)

pub returns : goal.returns
returns c = limited_elements c.args.g c.if-g-gt8.false c.elements_of.ensures
