-- One law for each answer.
use Rattle.subgroup_sides.proofs.SideLaws.{join_first, join_second, join_both}
use Rattle.subgroup_sides.proofs.inner.joinable.Goals as goal

pub returns-then-g-gt8 : goal.returns-then-g-gt8
returns-then-g-gt8 c = join_first c.args.g c.args.h c.if-g-gt8.true

pub returns-then-h-gt8 : goal.returns-then-h-gt8
returns-then-h-gt8 c = join_second c.args.g c.args.h c.if-g-gt8.false c.if-h-gt8.true

pub returns : goal.returns
returns c = join_both c.args.g c.args.h c.if-g-gt8.false c.if-h-gt8.false c.listed.ensures.0 c.listed-2.ensures.0
