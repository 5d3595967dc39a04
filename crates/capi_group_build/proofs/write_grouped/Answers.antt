-- The verdict, and one store after it.
use Rattle.std.specs.Prelude.{Ok, Err}
use Rattle.capi_group_build.proofs.Laws.{grouped_written}
use Rattle.capi_group_build.proofs.write_grouped.Goals as goal

pub returns-in-Err : goal.returns-in-Err
returns-in-Err c = rw c.in-Err.is (c.write_refusal-number.ensures.0, grouped_written (Err c.in-Err.why) c.args.out.now c.write_refusal-number.ensures.1 c.put.ensures)

pub returns-in-Ok : goal.returns-in-Ok
returns-in-Ok c = rw c.in-Ok.is (c.write_verdict-number.ensures.0, grouped_written (Ok c.in-Ok.g) c.args.out.now c.write_verdict-number.ensures.1 c.put-in-Ok.ensures)
