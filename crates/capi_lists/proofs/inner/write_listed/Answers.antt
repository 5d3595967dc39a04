-- By the answer: there is a refusal, or none.
use Rattle.capi_lists.proofs.Laws.{told_fine}
use Rattle.capi_lists.proofs.inner.write_listed.Goals as goal

pub returns-in-Ok : goal.returns-in-Ok
returns-in-Ok c = told_fine c.args.told.now c.in-Ok.is c.write_at.ensures

pub returns-in-Err : goal.returns-in-Err
returns-in-Err c = rw (c.in-Err.is) c.write_refused.ensures
