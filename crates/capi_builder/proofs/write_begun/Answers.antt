-- As what is made.
use Rattle.capi_builder.specs.Answers.{begun_into}
use Rattle.capi_builder.proofs.write_begun.Goals as goal

pub returns-in-Err : goal.returns-in-Err
unfolding begun_into
returns-in-Err c = rw c.in-Err.is c.write_made.ensures

pub returns-in-Ok : goal.returns-in-Ok
unfolding begun_into
returns-in-Ok c = rw c.in-Ok.is c.write_made-in-Ok.ensures
