-- The call's own answer, as one number.
use Rattle.capi_subgroup.proofs.hg_subgroup_generator.Goals as goal

pub returns : goal.returns
returns c = rw (c.reached_code.ensures, c.generator.ensures, c.subgroup_from-s.ensures)
