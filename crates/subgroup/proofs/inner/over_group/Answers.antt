-- At most 8 factors are joined at each call.
use Rattle.subgroup.proofs.Handles.{high_short, all_short, all_joined}
use Rattle.subgroup.proofs.inner.over_group.Goals as goal

pub joined-high-requires : goal.joined-high-requires
joined-high-requires c = high_short c.args.s c.requires

pub joined-requires : goal.joined-requires
joined-requires c = all_short c.args.s c.requires c.joined-high.ensures

pub returns : goal.returns
returns c = all_joined c.args.s c.requires c.joined-high.ensures c.joined.ensures
