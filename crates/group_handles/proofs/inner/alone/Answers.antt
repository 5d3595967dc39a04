-- An array of eight has its length from the value that came in.
use borrow.Author.Tests.{eqb-true}
use Rattle.group_handles.proofs.Lists.{is_alone}
use Rattle.group_handles.proofs.inner.alone.Goals as goal

pub returns : goal.returns
returns c = λ q. is_alone c.args.g c.well_formed.0.1.1.0.1.0.1 (eqb-true _ _ q)
