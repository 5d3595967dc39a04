-- What is made, and one store after it.
use Rattle.capi_subgroup.proofs.Laws.{subgrouped_written, subgrouped_not}
use Rattle.capi_subgroup.proofs.write_subgrouped.Goals as goal

pub returns-in-Ok : goal.returns-in-Ok
returns-in-Ok c = rw c.in-Ok.is (c.write_made-number.ensures.0, subgrouped_written c.in-Ok.s c.args.out.now c.write_made-number.ensures.1 c.put.ensures)

pub returns-in-Err : goal.returns-in-Err
returns-in-Err c = rw c.in-Err.is (c.write_made-number-in-Err.ensures.0, subgrouped_not c.in-Err.why c.args.out.now c.write_made-number-in-Err.ensures.1 c.put-in-Err.ensures)
