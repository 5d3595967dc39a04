-- A product of one factor is asked as the factor is. Else the verdict of `admit` decides, and the work's own contract is the answer.
use Rattle.egg.proofs.Refusing.{handed_on}
use lib.ListN.{length}
use mathlib.Core.Path.{◌∙◌}
use Rattle.group.specs.Questions.{step_answer}
use Rattle.factor.proofs.Admits.{reach_refused, reach_fine}
use Rattle.group_handles.proofs.Admitted.{ready, goes_on}
use Rattle.group.proofs.OneFactor.{one_step}
use Rattle.group.proofs.step.Goals as goal

pub returns-then-alone : goal.returns-then-alone
returns-then-alone c = c.step.ensures ∙ one_step c.args.table.now c.args.g _ (c.alone.ensures c.if-alone.true).counted (c.alone.ensures c.if-alone.true).listed c.args.e c.args.x

pub step_in-requires : goal.step_in-requires
step_in-requires c = ((ready (length c.args.table.now) c.args.g _ _ _ _ c.admit.ensures c.in_ok-admit.was).0, ((ready (length c.args.table.now) c.args.g _ _ _ _ c.admit.ensures c.in_ok-admit.was).1, (goes_on (length c.args.table.now) c.args.g _ _ _ _ c.admit.ensures c.in_ok-admit.was).first))

pub returns-in_err-admit : goal.returns-in_err-admit
unfolding step_answer
returns-in_err-admit c = handed_on c.from_residual.ensures ∙ reach_refused c.admit.ensures _ c.in_err-admit.was

pub returns : goal.returns
unfolding step_answer
returns c = c.step_in.ensures ∙ reach_fine c.admit.ensures _ c.in_ok-admit.was
