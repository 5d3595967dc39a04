-- The answer, and one store after it.
use Rattle.capi_builder.proofs.Laws.{grown_written}
use Rattle.capi_builder.proofs.write_grown.Goals as goal

pub returns : goal.returns
returns c = (c.write_reached-number.ensures.0, grown_written c.args.g c.args.out.now c.write_reached-number.ensures.1 c.put.ensures)
