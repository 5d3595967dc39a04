-- The stores of the head, from the last to the first.
use Rattle.image_writing.specs.Written.{put_head}
use Rattle.image_writing.proofs.inner.put_head.Goals as goal

pub returns : goal.returns
unfolding put_head
returns c = rw (c.put_half-3.ensures, c.put_byte-2.ensures, c.put_byte.ensures, c.put_half-2.ensures, c.put_half.ensures)
