-- By cases on the verdict.
use Rattle.capi_values.proofs.Laws.{paper_fine}
use Rattle.capi_values.proofs.inner.write_verdict.Goals as goal

pub returns-in-Err : goal.returns-in-Err
returns-in-Err c = rw c.in-Err.is c.write_refusal.ensures

pub returns-in-Ok : goal.returns-in-Ok
returns-in-Ok c = (rw c.in-Ok.is, paper_fine c.args.out.now c.in-Ok.is c.put.ensures c.put-in-Ok.ensures c.put-in-Ok-2.ensures c.put-in-Ok-3.ensures)
