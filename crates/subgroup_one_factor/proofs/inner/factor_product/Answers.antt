-- The product of one factor is the factor's own.
use lib.ListN.{length}
use Rattle.subgroup_one_factor.proofs.OneFactor.{one_some, one_product}
use Rattle.subgroup_one_factor.proofs.inner.factor_product.Goals as goal

pub nonzero_rem-first : goal.nonzero_rem-first
nonzero_rem-first c = one_some (length c.args.from.now) c.args.f c.requires

pub nonzero_rem-second : goal.nonzero_rem-second
nonzero_rem-second c = one_some (length c.args.from.now) c.args.f c.requires

pub returns : goal.returns
returns c = one_product c.args.from.now c.args.f c.args.a.0 c.args.b.0 c.part.ensures c.compose_elements.ensures
