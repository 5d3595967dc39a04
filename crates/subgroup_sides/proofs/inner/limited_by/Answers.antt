-- One law for each answer.
use Rattle.subgroup_sides.proofs.SideLaws.{limited_few, limited_over, limited_sub}
use Rattle.subgroup_sides.proofs.inner.limited_by.Goals as goal

pub returns-then-not-few : goal.returns-then-not-few
returns-then-not-few c = limited_few c.args.few c.args.below c.args.within c.args.over c.args.above c.if-not-few.true

pub returns-then-measure-gt4294967295 : goal.returns-then-measure-gt4294967295
returns-then-measure-gt4294967295 c = limited_over c.args.few c.args.below c.args.within c.args.over c.args.above c.if-not-few.false c.measure.ensures c.if-measure-gt4294967295.true

pub returns : goal.returns
returns c = limited_sub c.args.few c.args.below c.args.within c.args.over c.args.above c.if-not-few.false c.measure.ensures c.if-measure-gt4294967295.false c.measure-2.ensures
