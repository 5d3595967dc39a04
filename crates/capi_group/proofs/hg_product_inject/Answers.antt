-- The call's own answer, as one number.
use Rattle.capi_group.proofs.hg_product_inject.Goals as goal

pub returns : goal.returns
returns c = rw (c.reached_code.ensures, c.inject.ensures, c.product_of-g.ensures)
