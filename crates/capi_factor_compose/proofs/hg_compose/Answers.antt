-- The call's own answer, as one number.
use Rattle.capi_factor_compose.proofs.hg_compose.Goals as goal

pub returns : goal.returns
returns c = rw (c.reached_code.ensures, c.compose.ensures, c.factor_of-f.ensures)
