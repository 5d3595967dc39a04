-- A count that was answered is within the buffer, so that the part is as long as it says.
use lib.ListN.{length}
use mathlib.Core.Path.{sym}
use lib.Seq.{length-take-le}
use Rattle.factor.proofs.Questions.{filled_count, filled_none}
use Rattle.group.specs.Questions.{word_part}
use Rattle.group.proofs.Calls.{answer_fits}
use Rattle.group.proofs.word.Goals as goal

pub slice_bounds-result-end : goal.slice_bounds-result-end
slice_bounds-result-end c = let h = answer_fits c.args.table.now c.args.g c.args.e (length c.args.out.now) c.write_word.ensures.0 c.in-Ok.is in sym (length-take-le _ _ (rw c.write_word.auto.out h))

pub returns-in-Ok : goal.returns-in-Ok
unfolding word_part
returns-in-Ok c = filled_count c.write_word.ensures.0 c.write_word.ensures.1 c.in-Ok.is

pub returns-in-Err : goal.returns-in-Err
unfolding word_part
returns-in-Err c = filled_none c.write_word.ensures.0 c.write_word.ensures.1 c.in-Err.is
