-- The places that are not used hold no factor.
use Rattle.group_handles.proofs.trivial.Goals as goal

pub returns : goal.returns
returns c = rw c.no_factor.ensures
