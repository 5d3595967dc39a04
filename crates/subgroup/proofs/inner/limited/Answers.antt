-- The numbers of the outline.
use Rattle.subgroup.proofs.Outlines.{outline_limited_lem}
use Rattle.subgroup.proofs.inner.limited.Goals as goal

pub limited_by-requires : goal.limited_by-requires
limited_by-requires c = (c.requires.low, (c.requires.own, (c.requires.middle, c.requires.high)))

pub returns : goal.returns
returns c = outline_limited_lem c.args.o c.limited_by.ensures
