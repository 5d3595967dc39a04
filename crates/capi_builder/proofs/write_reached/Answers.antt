-- By cases on the answer.
use Rattle.capi_builder.proofs.Laws.{reached_refused, reached_element}
use Rattle.capi_builder.proofs.write_reached.Goals as goal

pub returns-in-Err : goal.returns-in-Err
returns-in-Err c = (rw c.in-Err.is c.write_refusal.ensures.0, reached_refused _ c.args.out.now c.in-Err.is c.write_refusal.ensures.1)

pub returns-in-Ok : goal.returns-in-Ok
returns-in-Ok c = (rw c.in-Ok.is, reached_element _ c.args.out.now c.in-Ok.is c.put.ensures c.put-in-Ok.ensures c.put-in-Ok-2.ensures c.put-in-Ok-3.ensures)
