-- The call's own answer, as one number.
use Rattle.capi_subgroup.proofs.hg_subgroup_generators.Goals as goal

pub returns : goal.returns
returns c = rw (c.counted_code.ensures, c.generator_count.ensures, c.subgroup_from-s.ensures)
