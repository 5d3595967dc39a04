-- A read, as a byte.
use Rattle.capi_subgroup.proofs.count_at.Goals as goal

pub returns : goal.returns
returns c = rw (c.byte_of.ensures, c.get.ensures)
