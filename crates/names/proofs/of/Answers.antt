-- The places that are not used hold the empty name.
use Rattle.names.proofs.of.Goals as goal

pub returns : goal.returns
returns c = rw (c.of.ensures, c.no_name-names.ensures)
