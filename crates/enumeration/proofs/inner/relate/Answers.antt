-- One law for each way in which 13 ends.
use Rattle.egg.proofs.Refusing.{handed_on}
use Rattle.enumeration.proofs.Calls.{relates_refused, relates_fails, relates_holds}
use Rattle.enumeration.proofs.inner.relate.Goals as goal

pub returns-in_err-count : goal.returns-in_err-count
returns-in_err-count c = rw (handed_on c.from_residual.ensures) (relates_refused _ c.args.orders.now c.args.t.now c.in_err-count.was)

pub returns-in-Err : goal.returns-in-Err
returns-in-Err c = relates_fails _ c.args.orders.now c.args.t.now c.in_ok-count.was c.relations_row-held.ensures c.in-Err.is c.clear.ensures

pub returns : goal.returns
returns c = relates_holds _ c.args.orders.now c.args.t.now c.in_ok-count.was c.relations_row-held.ensures c.in_default.is
