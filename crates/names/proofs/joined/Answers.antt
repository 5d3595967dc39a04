-- A length that was answered is within the buffer, so that the part is as long as it says.
use lib.ListN.{length}
use mathlib.Core.Path.{sym}
use lib.Seq.{length-take-le}
use Rattle.factor.proofs.Questions.{filled_count, filled_none}
use Rattle.names.specs.Joined.{joined_part}
use Rattle.names.proofs.Written.{joined_fits}
use Rattle.names.proofs.joined.Goals as goal

pub slice_bounds-result-end : goal.slice_bounds-result-end
slice_bounds-result-end c = let h = joined_fits c.args.table.now c.args.g (length c.args.out.now) c.write_joined.ensures.0 c.in-Ok.is in sym (length-take-le _ _ (rw (c.write_joined.auto.out) h))

pub returns-in-Ok : goal.returns-in-Ok
unfolding joined_part
returns-in-Ok c = filled_count c.write_joined.ensures.0 c.write_joined.ensures.1 c.in-Ok.is

pub returns-in-Err : goal.returns-in-Err
unfolding joined_part
returns-in-Err c = filled_none c.write_joined.ensures.0 c.write_joined.ensures.1 c.in-Err.is
