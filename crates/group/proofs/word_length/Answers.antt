-- A product of one factor is asked as the factor is. Else the verdict of `admit_one` decides, and the work's own contract is the answer.
use Rattle.egg.proofs.Refusing.{handed_on}
use lib.ListN.{length}
use mathlib.Core.Path.{◌∙◌}
use Rattle.group.specs.Questions.{length_answer}
use Rattle.factor.proofs.Admits.{count_refused, count_fine}
use Rattle.group_handles.proofs.Admitted.{ready}
use Rattle.group.proofs.OneFactor.{one_length}
use Rattle.group.proofs.word_length.Goals as goal

pub returns-then-alone : goal.returns-then-alone
returns-then-alone c = c.word_length.ensures ∙ one_length c.args.table.now c.args.g _ (c.alone.ensures c.if-alone.true).counted (c.alone.ensures c.if-alone.true).listed c.args.e

pub lengths-requires : goal.lengths-requires
lengths-requires c = (ready (length c.args.table.now) c.args.g _ _ _ _ c.admit_one.ensures c.in_ok-admit_one.was).0

pub returns-in_err-admit_one : goal.returns-in_err-admit_one
unfolding length_answer
returns-in_err-admit_one c = handed_on c.from_residual.ensures ∙ count_refused c.admit_one.ensures _ c.in_err-admit_one.was

pub returns : goal.returns
unfolding length_answer
returns c = c.lengths.ensures ∙ count_fine c.admit_one.ensures _ c.in_ok-admit_one.was
