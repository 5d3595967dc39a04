-- Two bytes, one after the other.
use Rattle.image_writing.proofs.inner.put_half.Goals as goal

pub returns : goal.returns
returns c = rw (c.put_byte-2.ensures, c.put_byte.ensures)
