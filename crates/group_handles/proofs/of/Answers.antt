-- The places that are not used hold no factor.
use Rattle.group_handles.proofs.of.Goals as goal

pub returns : goal.returns
returns c = rw c.no_factor-none.ensures
