-- The verdict of `admit` decides; then the work's own contract is the answer.
use Rattle.egg.proofs.Refusing.{handed_on}
use lib.ListN.{length}
use mathlib.Core.Path.{◌∙◌}
use Rattle.group.specs.Questions.{inject_answer}
use Rattle.factor.proofs.Admits.{reach_refused, reach_fine}
use Rattle.group_handles.proofs.Admitted.{ready, goes_on, first_is, second_is}
use Rattle.group_handles.specs.Handles.{handles}
use Rattle.group_handles.proofs.Lists.{positive}
use Rattle.group.proofs.inject.Goals as goal

pub inject_in-requires : goal.inject_in-requires
inject_in-requires c = (positive (length c.args.table.now) (handles c.args.g) (ready (length c.args.table.now) c.args.g _ _ _ _ (second_is (length c.args.table.now) c.args.g c.args.x.0 c.size_of-n.ensures c.args.f (length (handles c.args.g)) (first_is (length c.args.table.now) c.args.g c.args.f c.listed-k.ensures.0 c.args.x.0 c.size_of-n.result c.admit.ensures)) c.in_ok-admit.was).0, ((ready (length c.args.table.now) c.args.g _ _ _ _ (second_is (length c.args.table.now) c.args.g c.args.x.0 c.size_of-n.ensures c.args.f (length (handles c.args.g)) (first_is (length c.args.table.now) c.args.g c.args.f c.listed-k.ensures.0 c.args.x.0 c.size_of-n.result c.admit.ensures)) c.in_ok-admit.was).1, ((goes_on (length c.args.table.now) c.args.g _ _ _ _ (second_is (length c.args.table.now) c.args.g c.args.x.0 c.size_of-n.ensures c.args.f (length (handles c.args.g)) (first_is (length c.args.table.now) c.args.g c.args.f c.listed-k.ensures.0 c.args.x.0 c.size_of-n.result c.admit.ensures)) c.in_ok-admit.was).first, (goes_on (length c.args.table.now) c.args.g _ _ _ _ (second_is (length c.args.table.now) c.args.g c.args.x.0 c.size_of-n.ensures c.args.f (length (handles c.args.g)) (first_is (length c.args.table.now) c.args.g c.args.f c.listed-k.ensures.0 c.args.x.0 c.size_of-n.result c.admit.ensures)) c.in_ok-admit.was).second)))

pub returns-in_err-admit : goal.returns-in_err-admit
unfolding inject_answer
returns-in_err-admit c = handed_on c.from_residual.ensures ∙ reach_refused (second_is (length c.args.table.now) c.args.g c.args.x.0 c.size_of-n.ensures c.args.f (length (handles c.args.g)) (first_is (length c.args.table.now) c.args.g c.args.f c.listed-k.ensures.0 c.args.x.0 c.size_of-n.result c.admit.ensures)) _ c.in_err-admit.was

pub returns : goal.returns
unfolding inject_answer
returns c = c.inject_in.ensures ∙ reach_fine (second_is (length c.args.table.now) c.args.g c.args.x.0 c.size_of-n.ensures c.args.f (length (handles c.args.g)) (first_is (length c.args.table.now) c.args.g c.args.f c.listed-k.ensures.0 c.args.x.0 c.size_of-n.result c.admit.ensures)) _ c.in_ok-admit.was
