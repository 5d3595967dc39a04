-- The call's own answer, as one number.
use Rattle.capi_factor.proofs.hg_count.Goals as goal

pub returns : goal.returns
returns c = rw (c.counted_code.ensures, c.element_count.ensures, c.factor_of.ensures)
