-- The verdict of `admit_one` decides; then the work's own contract is the answer.
use Rattle.egg.proofs.Refusing.{handed_on}
use lib.ListN.{length}
use mathlib.Core.Path.{◌∙◌}
use Rattle.group.specs.Questions.{period_answer}
use Rattle.factor.proofs.Admits.{count_refused, count_fine}
use Rattle.group_handles.proofs.Admitted.{ready}
use Rattle.group.proofs.period.Goals as goal

pub periods-requires : goal.periods-requires
periods-requires c = (ready (length c.args.table.now) c.args.g _ _ _ _ c.admit_one.ensures c.in_ok-admit_one.was)

pub returns-in_err-admit_one : goal.returns-in_err-admit_one
unfolding period_answer
returns-in_err-admit_one c = handed_on c.from_residual.ensures ∙ count_refused c.admit_one.ensures _ c.in_err-admit_one.was

pub returns : goal.returns
unfolding period_answer
returns c = c.periods.ensures ∙ count_fine c.admit_one.ensures _ c.in_ok-admit_one.was
