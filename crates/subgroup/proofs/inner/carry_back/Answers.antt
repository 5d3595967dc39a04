-- One law for each answer.
use Rattle.subgroup.proofs.Carries.{first_some, second_some, carry_fits, back_outside, back_refused, back_is}
use Rattle.subgroup.proofs.inner.carry_back.Goals as goal

pub nonzero_div-y : goal.nonzero_div-y
nonzero_div-y c = first_some c.args.o.below c.args.o.over c.args.o.above c.args.x.0 c.requires.0

pub nonzero_rem-y : goal.nonzero_rem-y
nonzero_rem-y c = second_some c.args.o.below c.args.o.over c.args.o.above c.args.x.0 c.requires.0

pub returns-then-w : goal.returns-then-w
returns-then-w c = back_outside c.args.o.below c.args.o.over c.args.o.within c.args.x.0 c.args.inn.now c.get-w.ensures c.if-w.true

pub returns-then-n-w : goal.returns-then-n-w
returns-then-n-w c = back_refused c.args.o.below c.args.o.over c.args.o.within c.args.x.0 c.args.inn.now c.get-w.ensures c.if-w.false c.if-n-w.true

pub replaced-requires : goal.replaced-requires
replaced-requires c = (first_some c.args.o.below c.args.o.over c.args.o.above c.args.x.0 c.requires.0, (second_some c.args.o.below c.args.o.over c.args.o.above c.args.x.0 c.requires.0, carry_fits c.args.o.below c.args.o.within c.args.o.over c.args.o.above c.args.x.0 c.requires.0 c.requires.1.0 _ c.if-n-w.false))

pub returns : goal.returns
returns c = back_is c.args.o.below c.args.o.over c.args.o.within c.args.x.0 c.args.inn.now c.get-w.ensures c.if-w.false c.if-n-w.false c.replaced.ensures
