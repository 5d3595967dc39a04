-- The verdict of `admit_one` decides; then the work's own contract is the answer.
use Rattle.egg.proofs.Refusing.{handed_on}
use lib.ListN.{length}
use mathlib.Core.Path.{refl, sym}
use Rattle.group.specs.Questions.{split_answer, split_leaves}
use Rattle.group_handles.specs.Handles.{handles, sizes}
use Rattle.group_digits.proofs.Splits.{left_by_lem}
use Rattle.group_handles.proofs.Admitted.{ready}
use Rattle.factor.proofs.Admits.{count_refused, count_fine}
use Rattle.group_handles.specs.Handles.{handles}
use Rattle.group_handles.proofs.Lists.{positive}
use Rattle.group.proofs.split.Goals as goal

pub split_in-requires : goal.split_in-requires
split_in-requires c = positive (length c.args.table.now) (handles c.args.g) (ready (length c.args.table.now) c.args.g _ _ _ _ c.admit_one.ensures c.in_ok-admit_one.was).0

pub returns-in_err-admit_one : goal.returns-in_err-admit_one
unfolding split_answer split_leaves
returns-in_err-admit_one c = left_by_lem (sizes (handles c.args.g)) c.args.e.0 c.args.out.now (sym (count_refused c.admit_one.ensures _ c.in_err-admit_one.was)) (handed_on c.from_residual.ensures) refl

pub returns : goal.returns
unfolding split_answer split_leaves
returns c = left_by_lem (sizes (handles c.args.g)) c.args.e.0 c.args.out.now (sym (count_fine c.admit_one.ensures _ c.in_ok-admit_one.was)) c.split_in.ensures.0 c.split_in.ensures.1
