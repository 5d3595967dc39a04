-- One law for each answer.
use Rattle.subgroup_build.proofs.Admits.{small_not, small_is}
use Rattle.subgroup_build.proofs.inner.small_enough.Goals as goal

pub returns-then-not-limited : goal.returns-then-not-limited
returns-then-not-limited c = small_not c.args.over c.limited.ensures c.if-not-limited.true

pub returns : goal.returns
returns c = small_is c.args.over c.limited.ensures c.if-not-limited.false c.elements_of.ensures
