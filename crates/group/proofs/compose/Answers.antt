-- A product of one factor is asked as the factor is. Else the verdict of `admit` decides, and the work's own contract is the answer.
use Rattle.egg.proofs.Refusing.{handed_on}
use lib.ListN.{length}
use mathlib.Core.Path.{◌∙◌}
use Rattle.group.specs.Questions.{compose_answer}
use Rattle.factor.proofs.Admits.{reach_refused, reach_fine}
use Rattle.group_handles.proofs.Admitted.{ready}
use Rattle.group.proofs.OneFactor.{one_compose}
use Rattle.group.proofs.compose.Goals as goal

pub returns-then-alone : goal.returns-then-alone
returns-then-alone c = c.compose.ensures ∙ one_compose c.args.table.now c.args.g _ (c.alone.ensures c.if-alone.true).counted (c.alone.ensures c.if-alone.true).listed c.args.a c.args.b

pub compose_digits-requires : goal.compose_digits-requires
compose_digits-requires c = (ready (length c.args.table.now) c.args.g _ _ _ _ c.admit.ensures c.in_ok-admit.was)

pub returns-in_err-admit : goal.returns-in_err-admit
unfolding compose_answer
returns-in_err-admit c = handed_on c.from_residual.ensures ∙ reach_refused c.admit.ensures _ c.in_err-admit.was

pub returns : goal.returns
unfolding compose_answer
returns c = c.compose_digits.ensures ∙ reach_fine c.admit.ensures _ c.in_ok-admit.was
