-- A product of one factor is asked as the factor is. Else the verdict of `admit_one` decides, and the work's own contract is the answer.
use Rattle.egg.proofs.Refusing.{handed_on}
use lib.ListN.{length}
use mathlib.Core.Path.{◌∙◌}
use Rattle.group.specs.Questions.{generator_answer}
use Rattle.factor.proofs.Admits.{reach_refused, reach_fine}
use Rattle.group_handles.proofs.Admitted.{ready}
use Rattle.group_handles.specs.Handles.{handles}
use Rattle.group_handles.proofs.Lists.{positive}
use Rattle.group.proofs.OneFactor.{one_generator}
use Rattle.group.proofs.generator.Goals as goal

pub returns-then-alone : goal.returns-then-alone
returns-then-alone c = c.generator.ensures ∙ one_generator c.args.table.now c.args.g _ (c.alone.ensures c.if-alone.true).counted (c.alone.ensures c.if-alone.true).listed c.args.x

pub step_in-requires : goal.step_in-requires
step_in-requires c = ((ready (length c.args.table.now) c.args.g _ _ _ _ c.admit_one.ensures c.in_ok-admit_one.was).0, ((ready (length c.args.table.now) c.args.g _ _ _ _ c.admit_one.ensures c.in_ok-admit_one.was).1, positive (length c.args.table.now) (handles c.args.g) (ready (length c.args.table.now) c.args.g _ _ _ _ c.admit_one.ensures c.in_ok-admit_one.was).0))

pub returns-in_err-admit_one : goal.returns-in_err-admit_one
unfolding generator_answer
returns-in_err-admit_one c = handed_on c.from_residual.ensures ∙ reach_refused c.admit_one.ensures _ c.in_err-admit_one.was

pub returns : goal.returns
unfolding generator_answer
returns c = c.step_in.ensures ∙ reach_fine c.admit_one.ensures _ c.in_ok-admit_one.was
