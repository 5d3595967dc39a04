-- The verdict of `admit` decides; then the work's own contract is the answer.
use Rattle.egg.proofs.Refusing.{handed_on}
use lib.ListN.{length}
use mathlib.Core.Path.{◌∙◌}
use Rattle.group.specs.Questions.{project_answer}
use Rattle.factor.proofs.Admits.{reach_refused, reach_fine}
use Rattle.group_handles.proofs.Admitted.{ready, goes_on, first_is}
use Rattle.group_handles.specs.Handles.{handles, elements_of}
use Rattle.group_handles.specs.Handles.{handles}
use Rattle.group_handles.proofs.Lists.{positive}
use Rattle.group.proofs.project.Goals as goal

pub project_in-requires : goal.project_in-requires
project_in-requires c = (positive (length c.args.table.now) (handles c.args.g) (ready (length c.args.table.now) c.args.g _ _ _ _ (first_is (length c.args.table.now) c.args.g c.args.f c.listed-k.ensures.0 c.args.e.0 (elements_of (handles c.args.g)) c.admit.ensures) c.in_ok-admit.was).0, ((ready (length c.args.table.now) c.args.g _ _ _ _ (first_is (length c.args.table.now) c.args.g c.args.f c.listed-k.ensures.0 c.args.e.0 (elements_of (handles c.args.g)) c.admit.ensures) c.in_ok-admit.was).1, (goes_on (length c.args.table.now) c.args.g _ _ _ _ (first_is (length c.args.table.now) c.args.g c.args.f c.listed-k.ensures.0 c.args.e.0 (elements_of (handles c.args.g)) c.admit.ensures) c.in_ok-admit.was).first))

pub returns-in_err-admit : goal.returns-in_err-admit
unfolding project_answer
returns-in_err-admit c = handed_on c.from_residual.ensures ∙ reach_refused (first_is (length c.args.table.now) c.args.g c.args.f c.listed-k.ensures.0 c.args.e.0 (elements_of (handles c.args.g)) c.admit.ensures) _ c.in_err-admit.was

pub returns : goal.returns
unfolding project_answer
returns c = c.project_in.ensures ∙ reach_fine (first_is (length c.args.table.now) c.args.g c.args.f c.listed-k.ensures.0 c.args.e.0 (elements_of (handles c.args.g)) c.admit.ensures) _ c.in_ok-admit.was
