-- One law for each answer.
use Rattle.subgroup.proofs.Carries.{first_some, second_some, carry_fits, carry_refused, carry_is}
use Rattle.subgroup.proofs.inner.carry_over.Goals as goal

pub nonzero_div-x : goal.nonzero_div-x
nonzero_div-x c = first_some c.args.o.below c.args.o.within c.args.o.above c.args.e.0 c.requires.0

pub nonzero_rem-x : goal.nonzero_rem-x
nonzero_rem-x c = second_some c.args.o.below c.args.o.within c.args.o.above c.args.e.0 c.requires.0

pub returns-then-m-w : goal.returns-then-m-w
returns-then-m-w c = carry_refused c.args.o.below c.args.o.over c.args.o.within c.args.e.0 c.args.outw.now c.get-w.ensures c.if-m-w.true

pub replaced-requires : goal.replaced-requires
replaced-requires c = (first_some c.args.o.below c.args.o.within c.args.o.above c.args.e.0 c.requires.0, (second_some c.args.o.below c.args.o.within c.args.o.above c.args.e.0 c.requires.0, carry_fits c.args.o.below c.args.o.over c.args.o.within c.args.o.above c.args.e.0 c.requires.0 c.requires.1.1 _ c.if-m-w.false))

pub returns : goal.returns
returns c = carry_is c.args.o.below c.args.o.over c.args.o.within c.args.e.0 c.args.outw.now c.get-w.ensures c.if-m-w.false c.replaced.ensures
