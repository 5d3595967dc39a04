-- A product of one factor by the factor's own; else what the look at the handles shows is what the chunks ask for.
use Rattle.lists_group.proofs.Chunks.{compose_alone, sound}
use Rattle.egg.proofs.Rooms.{false_true}
use lib.ListN.{length}
use Rattle.lists_group.proofs.inner.side_by_side.Goals as goal

pub returns-then-alone : goal.returns-then-alone
returns-then-alone c = λ h. compose_alone (c.args.table.now) (c.args.g) (c.args.a.now) (c.alone.ensures (c.if-alone.true)) (c.args.b.now) (c.side_by_side.ensures h)

pub returns-in_default : goal.returns-in_default
returns-in_default c = λ h. absurd (false_true h)

pub in_chunks-requires : goal.in_chunks-requires
in_chunks-requires c = (sound (length (c.args.table.now)) (c.args.g) (c.look-seen.ensures.0) (c.admit_none_seen.ensures) (c.in-Ok.is), c.requires)
