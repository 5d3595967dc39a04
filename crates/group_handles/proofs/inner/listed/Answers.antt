-- An array of eight has its length from the value that came in.
use native.Mathlib.Omega.{arith}
use Rattle.group_handles.proofs.Lists.{listed_many, listed_few}
use Rattle.group_handles.proofs.inner.listed.Goals as goal

pub returns-then-g-gt8 : goal.returns-then-g-gt8
returns-then-g-gt8 c = (listed_many c.args.g c.well_formed.0.1.1.0.1.0.1 c.if-g-gt8.true, omega arith)

pub returns-else-g-gt8 : goal.returns-else-g-gt8
returns-else-g-gt8 c = (listed_few c.args.g c.well_formed.0.1.1.0.1.0.1 c.if-g-gt8.false, c.if-g-gt8.false)
