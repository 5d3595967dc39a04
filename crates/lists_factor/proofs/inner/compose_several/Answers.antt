-- With a short list of our own, or a piece at a time.
use Rattle.lists.proofs.Pieces.{pieces_all}
use Rattle.lists_factor.proofs.inner.compose_several.Goals as goal

pub returns : goal.returns
returns c = pieces_all (c.compose_from.ensures) (c.compose_from.auto.out) (c.requires.1)
