-- Its handles.
use Rattle.capi_subgroup.specs.Subgroup.{subgroup_from}
use Rattle.capi_subgroup.proofs.subgroup_from.Goals as goal

pub returns : goal.returns
unfolding subgroup_from
returns c = rw (c.product_at-above.ensures, c.count_at-3.ensures, c.product_at-over.ensures, c.count_at-2.ensures, c.product_at-below.ensures, c.count_at.ensures, c.handle_at-factor.ensures)
