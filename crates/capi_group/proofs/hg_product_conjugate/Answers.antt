-- The call's own answer, as one number.
use Rattle.capi_group.proofs.hg_product_conjugate.Goals as goal

pub returns : goal.returns
returns c = rw (c.reached_code.ensures, c.conjugate-r.ensures)
