-- What the look at the handles shows is what the chunks ask for.
use Rattle.lists_group.proofs.Chunks.{sound}
use Rattle.egg.proofs.Rooms.{false_true}
use lib.ListN.{length}
use Rattle.lists_group.proofs.inner.inverses_at_once.Goals as goal

pub returns-in_default : goal.returns-in_default
returns-in_default c = λ h. absurd (false_true h)

pub inverses_in_chunks-requires : goal.inverses_in_chunks-requires
inverses_in_chunks-requires c = (sound (length c.args.table.now) c.args.g c.look-seen.ensures.0 c.admit_none_seen.ensures c.in-Ok.is, c.requires)
