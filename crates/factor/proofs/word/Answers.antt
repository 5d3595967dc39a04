-- A count that was answered is within the buffer, so that the part is as long as it says; the part is `filled_by` the answer.
use mathlib.Core.Path.{sym}
use lib.ListN.{length}
use lib.Seq.{length-take-le}
use Rattle.factor.specs.Questions.{word_part}
use Rattle.factor.proofs.Questions.{answer_fits, filled_count, filled_none}
use Rattle.factor.proofs.word.Goals as goal

pub slice_bounds-result-end : goal.slice_bounds-result-end
slice_bounds-result-end c = let a = c.args in let h = answer_fits a.table.now a.f a.e (length a.out.now) c.write_word.ensures.0 c.in-Ok.is in sym (length-take-le _ _ (rw c.write_word.auto.out h))

pub returns-in-Ok : goal.returns-in-Ok
unfolding word_part
returns-in-Ok c = filled_count c.write_word.ensures.0 c.write_word.ensures.1 c.in-Ok.is

pub returns-in-Err : goal.returns-in-Err
unfolding word_part
returns-in-Err c = filled_none c.write_word.ensures.0 c.write_word.ensures.1 c.in-Err.is
