-- The call's own answer, as one number.
use Rattle.capi_walks.proofs.hg_product_walk.Goals as goal

pub returns : goal.returns
returns c = rw (c.reached_code.ensures, c.walk.ensures, c.product_of-g.ensures)
