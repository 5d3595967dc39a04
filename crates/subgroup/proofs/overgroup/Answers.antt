-- The verdict on the handles decides.
use Rattle.egg.proofs.Refusing.{handed_on}
use mathlib.Core.Path.{◌∙◌, sym}
use lib.ListN.{length}
use Rattle.subgroup.specs.Questions.{overgroup_answer}
use Rattle.subgroup.proofs.Handles.{handles_admitted, grouped_refused, grouped_fine}
use Rattle.subgroup.proofs.overgroup.Goals as goal

pub returns-in_err-admit_handles : goal.returns-in_err-admit_handles
unfolding overgroup_answer
returns-in_err-admit_handles c = handed_on c.from_residual.ensures ∙ grouped_refused c.admit_handles.ensures _ c.in_err-admit_handles.was

pub over_group-requires : goal.over_group-requires
over_group-requires c = (handles_admitted (length c.args.from.now) (length c.args.table.now) c.args.s (sym c.admit_handles.ensures ∙ c.in_ok-admit_handles.was)).1

pub returns : goal.returns
unfolding overgroup_answer
returns c = rw c.over_group.ensures (grouped_fine c.admit_handles.ensures _ c.in_ok-admit_handles.was)
