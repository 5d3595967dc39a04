-- The call's own answer and buffers.
use Rattle.capi_group_build.proofs.hg_product_join.Goals as goal

pub returns : goal.returns
returns c = rw (c.reached_code.ensures, c.join.ensures, c.product_of-g.ensures)
