-- The call's own answer, as one number.
use Rattle.capi_factor.proofs.hg_conjugate.Goals as goal

pub returns : goal.returns
returns c = rw (c.reached_code.ensures, c.conjugate.ensures, c.factor_of-f.ensures)
