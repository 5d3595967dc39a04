-- The call's own answer, as one number.
use Rattle.capi_factor.proofs.hg_generator.Goals as goal

pub returns : goal.returns
returns c = rw (c.reached_code.ensures, c.generator.ensures, c.factor_of.ensures)
