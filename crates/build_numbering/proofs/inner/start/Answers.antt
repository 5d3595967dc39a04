-- Two stores into what was marked and cleared.
use Rattle.build_numbering.proofs.inner.start.Goals as goal

pub returns : goal.returns
returns c = (rw (c.put.ensures, c.mark.ensures), rw (c.put-2.ensures, c.clear.ensures))
