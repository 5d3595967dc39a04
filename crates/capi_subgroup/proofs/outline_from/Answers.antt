-- What each part shows.
use Rattle.subgroup.proofs.Outlines.{measured}
use Rattle.capi_subgroup.specs.Subgroup.{subgroup_from}
use Rattle.capi_subgroup.proofs.Laws.{outline_told, element_fits}
use lib.ListN.{length}
use Rattle.capi_subgroup.proofs.outline_from.Goals as goal

pub returns : goal.returns
returns c = let A = outline_told (length c.args.from.now) (length c.args.table.now) c.args.l.now c.handle_at-factor.ensures c.fits-fits.ensures c.count_at-k.ensures c.count_at-m.ensures c.count_at-n.ensures c.look_at-below.ensures c.look_at-over.ensures c.look_at-above.ensures c.few_of-few.ensures c.outline_by.ensures in (A, measured (length c.args.from.now) (length c.args.table.now) (subgroup_from c.args.l.now) A (element_fits c.args.l.now c.handle_at-factor.ensures c.handle_at-factor.type_inv.1.1.1.1.1.0.1))
