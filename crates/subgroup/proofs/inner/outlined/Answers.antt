-- What each part shows.
use lib.ListN.{length}
use Rattle.subgroup.proofs.Outlines.{outline_is}
use Rattle.subgroup.proofs.inner.outlined.Goals as goal

pub returns : goal.returns
returns c = outline_is (length c.args.from.now) (length c.args.table.now) c.args.s c.fits-fits.ensures c.few_factors-few.ensures c.look-low.ensures.0 c.look-middle.ensures.0 c.look-high.ensures.0 c.outline_by.ensures
