-- The call's own answer, as one number.
use Rattle.capi_group.proofs.hg_product_period.Goals as goal

pub returns : goal.returns
returns c = rw (c.counted_code.ensures, c.period.ensures, c.product_of-g.ensures)
