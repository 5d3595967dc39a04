-- The places that are not used hold the empty name.
use Rattle.names.proofs.trivial.Goals as goal

pub returns : goal.returns
returns c = rw (c.trivial.ensures, c.no_name.ensures)
