-- The name is the empty one.
use Rattle.names_values.proofs.unnamed.Goals as goal

pub returns : goal.returns
returns c = rw c.no_name.ensures
