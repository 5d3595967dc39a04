-- By cases on the test.
use native.Mathlib.Omega.{arith}
use Rattle.capi_handles.proofs.Looks.{told_many, told_few}
use Rattle.capi_handles.proofs.inner.listed.Goals as goal

pub returns-then-count-gt8 : goal.returns-then-count-gt8
returns-then-count-gt8 c = ((λ l at. told_many l at (c.args.count) (c.if-count-gt8.true)), omega arith)

pub returns-else-count-gt8 : goal.returns-else-count-gt8
returns-else-count-gt8 c = ((λ l at. told_few l at (c.args.count) (c.if-count-gt8.false)), (c.if-count-gt8.false))
