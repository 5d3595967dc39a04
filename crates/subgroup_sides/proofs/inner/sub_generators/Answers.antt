-- The generators of the three parts, added up.
use Rattle.subgroup_sides.proofs.Generators.{sub_generators_are}
use Rattle.subgroup_sides.proofs.inner.sub_generators.Goals as goal

pub returns : goal.returns
returns c = sub_generators_are c.args.s c.generators_of-low.ensures.0 c.generators_of-high.ensures.0
