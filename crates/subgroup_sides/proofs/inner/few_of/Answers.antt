-- One law for each answer.
use Rattle.subgroup_sides.proofs.Few.{few_of_below, few_of_over, few_of_above, few_of_long, few_of_last}
use Rattle.subgroup_sides.proofs.inner.few_of.Goals as goal

pub returns-then-below-gt8 : goal.returns-then-below-gt8
returns-then-below-gt8 c = few_of_below c.args.below c.args.over c.args.above c.if-below-gt8.true

pub returns-then-over-gt8 : goal.returns-then-over-gt8
returns-then-over-gt8 c = few_of_over c.args.below c.args.over c.args.above c.if-below-gt8.false c.if-over-gt8.true

pub returns-then-above-gt8 : goal.returns-then-above-gt8
returns-then-above-gt8 c = few_of_above c.args.below c.args.over c.args.above c.if-below-gt8.false c.if-over-gt8.false c.if-above-gt8.true

pub returns-then-k-over-gt8 : goal.returns-then-k-over-gt8
returns-then-k-over-gt8 c = few_of_long c.args.below c.args.over c.args.above c.if-below-gt8.false c.if-over-gt8.false c.if-above-gt8.false c.if-k-over-gt8.true

pub returns : goal.returns
returns c = few_of_last c.args.below c.args.over c.args.above c.if-below-gt8.false c.if-over-gt8.false c.if-above-gt8.false c.if-k-over-gt8.false
