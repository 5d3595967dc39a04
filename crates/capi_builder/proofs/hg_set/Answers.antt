-- The call's own answer, as one number, and its table.
use Rattle.capi_builder.proofs.Laws.{stored_leaves}
use Rattle.capi_builder.proofs.hg_set.Goals as goal

pub returns : goal.returns
returns c = rw (← c.builder_of-b.ensures) (stored_leaves c.set_successor-s.ensures c.stored_code.ensures)
