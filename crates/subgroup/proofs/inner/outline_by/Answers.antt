-- Three tests that are put together.
use Rattle.subgroup.proofs.inner.outline_by.Goals as goal

pub returns : goal.returns
returns c = rw (c.both-fit.ensures, c.both.ensures, c.both-high.ensures)
