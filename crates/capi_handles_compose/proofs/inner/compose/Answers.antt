-- A product of one handle is asked as the factor is. Else the verdict of `admit` decides, and the work's own contract is the answer.
use Rattle.egg.proofs.Refusing.{handed_on}
use lib.ListN.{length}
use mathlib.Core.Path.{◌∙◌}
use Rattle.factor.proofs.Admits.{reach_refused, reach_fine}
use Rattle.group_handles.proofs.Admitted.{ready}
use Rattle.group.specs.Questions.{compose_answer}
use Rattle.capi_handles.specs.Product.{product_of}
use Rattle.capi_handles.proofs.OneHandle.{compose_alone}
use Rattle.capi_handles_compose.proofs.inner.compose.Goals as goal

pub returns-then-count-eq1 : goal.returns-then-count-eq1
returns-then-count-eq1 c = compose_alone c.args.table.now c.args.l.now c.args.count c.if-count-eq1.true c.handle_at.ensures c.args.a c.args.b c.compose.ensures

pub compose_listed-requires : goal.compose_listed-requires
compose_listed-requires c = ready (length c.args.table.now) (product_of c.args.l.now c.args.count) _ _ _ _ c.admit.ensures c.in_ok-admit.was

pub returns-in_err-admit : goal.returns-in_err-admit
unfolding compose_answer
returns-in_err-admit c = handed_on c.from_residual.ensures ∙ reach_refused c.admit.ensures _ c.in_err-admit.was

pub returns : goal.returns
unfolding compose_answer
returns c = c.compose_listed.ensures ∙ reach_fine c.admit.ensures _ c.in_ok-admit.was
