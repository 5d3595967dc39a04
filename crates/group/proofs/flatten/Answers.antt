-- The verdict of `admit` decides.
use Rattle.egg.proofs.Refusing.{handed_on}
use lib.ListN.{length}
use mathlib.Core.Path.{◌∙◌}
use Rattle.group_flatten.specs.Flat.{flat}
use Rattle.group_handles.proofs.Admitted.{ready}
use Rattle.group_flatten.proofs.Flats.{making_refused, making_fine}
use Rattle.group.proofs.flatten.Goals as goal

pub flat_into-requires : goal.flat_into-requires
flat_into-requires c = ready (length c.args.from.now) c.args.g _ _ _ _ c.admit.ensures c.in_ok-admit.was

pub returns-in_err-admit : goal.returns-in_err-admit
unfolding flat
returns-in_err-admit c = making_refused c.admit.ensures c.args.table.now c.args.work.now _ c.in_err-admit.was (handed_on c.from_residual.ensures)

pub returns : goal.returns
unfolding flat
returns c = c.flat_into.ensures ∙ making_fine c.admit.ensures c.args.table.now c.args.work.now _ c.in_ok-admit.was
