use native.Mathlib.Nat.{mod-le, div-le_self}
use mathlib.Core.Path.{refl}
use lib.ListN.{get_or}
use Rattle.build_lending.specs.Lending.{no_factor}
use native.Mathlib.Omega.{arith}
use Rattle.group_handles.proofs.Lists.{turn_at, turned_all}
use Rattle.group_handles.specs.Handles.{handles}
use Rattle.group_digits.proofs.Splits.{some_at, splitting, splits_on, split_short, split_long}
use borrow.Author.Rules.{rules}
use Rattle.group_digits.proofs.inner.split_in.Goals as goal

pub returns-then-out-c : goal.returns-then-out-c
returns-then-out-c c = split_short (handles c.args.g) c.args.e.0 c.listed-c.ensures.0 c.args.out.now c.if-out-c.true refl

pub loop-f-init : goal.loop-f-init
loop-f-init c = (splitting (handles c.args.g) c.args.e.0 c.args.out.now, search rules)

pub nonzero_rem-rest : goal.nonzero_rem-rest
nonzero_rem-rest c = omega (arith, (some_at c.args.g c.loop-f.f c.listed-c.ensures.0 c.loop-f-test.true c.requires))

pub overflow_cast-rest : goal.overflow_cast-rest
overflow_cast-rest c = omega (arith, mod-le c.loop-f.rest (get_or c.args.g.factors c.loop-f.f no_factor).elements, c.loop-f.invariant.1)

pub nonzero_div-rest : goal.nonzero_div-rest
nonzero_div-rest c = omega (arith, (some_at c.args.g c.loop-f.f c.listed-c.ensures.0 c.loop-f-test.true c.requires))

pub loop-f-preserved : goal.loop-f-preserved
loop-f-preserved c = (splits_on c.loop-f.invariant.0 (turn_at c.args.g c.loop-f.f c.listed-c.ensures.0 c.loop-f-test.true) c.put.auto.s c.put.ensures, omega (arith, div-le_self c.loop-f.rest (get_or c.args.g.factors c.loop-f.f no_factor).elements, c.loop-f.invariant.1))

pub overflow_cast-result : goal.overflow_cast-result
overflow_cast-result c = omega (arith, c.listed-c.ensures.1)

pub shape_of-out : goal.shape_of-out
shape_of-out c = c.loop-f.invariant.0.kept

pub returns : goal.returns
returns c = split_long (handles c.args.g) c.args.e.0 c.listed-c.ensures.0 (search rules) c.if-out-c.false c.loop-f.invariant.0 (turned_all (handles c.args.g) c.loop-f.f c.listed-c.ensures.0 c.loop-f-test.false)
