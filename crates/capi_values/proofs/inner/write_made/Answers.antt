-- The verdict, and one store after it.
use Rattle.std.specs.Prelude.{Ok, Err}
use Rattle.capi_values.proofs.Laws.{made_written}
use Rattle.capi_values.proofs.inner.write_made.Goals as goal

pub returns-in-Err : goal.returns-in-Err
returns-in-Err c = rw c.in-Err.is (c.write_refusal-number.ensures.0, made_written (Err c.in-Err.why) c.args.out.now c.write_refusal-number.ensures.1 c.put.ensures)

pub returns-in-Ok : goal.returns-in-Ok
returns-in-Ok c = rw c.in-Ok.is (c.write_verdict-number.ensures.0, made_written (Ok c.in-Ok.f) c.args.out.now c.write_verdict-number.ensures.1 c.put-in-Ok.ensures)
