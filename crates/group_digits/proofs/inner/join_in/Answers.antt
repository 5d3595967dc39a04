use Prim.Native.Nat.{◌<◌}
use lib.ListN.{get_or}
use native.Mathlib.Omega.{arith}
use Rattle.build_lending.specs.Lending.{no_factor}
use Rattle.group_handles.specs.Handles.{handles}
use Rattle.group_handles.proofs.Lists.{turn_at, turned_all, handle_at_lem}
use Rattle.group_handles.proofs.Admitted.{limited_many, seen_few, seen_many, few_elements}
use Rattle.group_digits.proofs.Walks.{sum_fits, stride_fits}
use Rattle.group_digits.proofs.Splits.{joining, joins_on, join_large, join_short, join_end, digits_good}
use Rattle.group_digits.proofs.inner.join_in.Goals as goal

pub returns-then-g-gt8 : goal.returns-then-g-gt8
returns-then-g-gt8 c = join_large c.args.g c.args.digits.now (limited_many c.args.g c.if-g-gt8.true)

pub returns-then-elements-gt4294967295 : goal.returns-then-elements-gt4294967295
returns-then-elements-gt4294967295 c = join_large c.args.g c.args.digits.now (seen_many c.args.g c.requires.1.0 c.if-g-gt8.false c.if-elements-gt4294967295.true)

pub returns-then-digits-c : goal.returns-then-digits-c
returns-then-digits-c c = join_short c.args.g c.args.digits.now (seen_few c.args.g c.requires.1.0 c.if-g-gt8.false c.if-elements-gt4294967295.false) c.listed-c.ensures.0 c.if-digits-c.true

pub loop-f-init : goal.loop-f-init
loop-f-init c = joining (handles c.args.g) c.args.digits.now

pub overflow_mul-sum : goal.overflow_mul-sum
overflow_mul-sum c = let k : c.get.result < (get_or c.args.g.factors c.loop-f.f no_factor).elements = (rw (c.get.ensures, (handle_at_lem c.args.g c.loop-f.f c.listed-c.ensures.0 c.loop-f-test.true)) (digits_good (handles c.args.g) c.args.digits.now c.loop-f.f c.requires.1.1 (rw (← c.listed-c.ensures.0) c.if-digits-c.false) (rw (← c.listed-c.ensures.0) c.loop-f-test.true))) in omega (arith, sum_fits c.loop-f.invariant.walks (turn_at c.args.g c.loop-f.f c.listed-c.ensures.0 c.loop-f-test.true) k, stride_fits c.loop-f.invariant.walks (turn_at c.args.g c.loop-f.f c.listed-c.ensures.0 c.loop-f-test.true) c.requires.0, (few_elements c.args.g (seen_few c.args.g c.requires.1.0 c.if-g-gt8.false c.if-elements-gt4294967295.false)))

pub overflow_add-sum : goal.overflow_add-sum
overflow_add-sum c = let k : c.get.result < (get_or c.args.g.factors c.loop-f.f no_factor).elements = (rw (c.get.ensures, (handle_at_lem c.args.g c.loop-f.f c.listed-c.ensures.0 c.loop-f-test.true)) (digits_good (handles c.args.g) c.args.digits.now c.loop-f.f c.requires.1.1 (rw (← c.listed-c.ensures.0) c.if-digits-c.false) (rw (← c.listed-c.ensures.0) c.loop-f-test.true))) in omega (arith, sum_fits c.loop-f.invariant.walks (turn_at c.args.g c.loop-f.f c.listed-c.ensures.0 c.loop-f-test.true) k, stride_fits c.loop-f.invariant.walks (turn_at c.args.g c.loop-f.f c.listed-c.ensures.0 c.loop-f-test.true) c.requires.0, (few_elements c.args.g (seen_few c.args.g c.requires.1.0 c.if-g-gt8.false c.if-elements-gt4294967295.false)))

pub overflow_mul-stride : goal.overflow_mul-stride
overflow_mul-stride c = omega (arith, stride_fits c.loop-f.invariant.walks (turn_at c.args.g c.loop-f.f c.listed-c.ensures.0 c.loop-f-test.true) c.requires.0, (few_elements c.args.g (seen_few c.args.g c.requires.1.0 c.if-g-gt8.false c.if-elements-gt4294967295.false)))

pub loop-f-preserved : goal.loop-f-preserved
loop-f-preserved c = joins_on c.loop-f.invariant (turn_at c.args.g c.loop-f.f c.listed-c.ensures.0 c.loop-f-test.true) (omega (arith, c.loop-f-test.true, c.if-digits-c.false)) c.get.ensures (rw (c.get.ensures, (handle_at_lem c.args.g c.loop-f.f c.listed-c.ensures.0 c.loop-f-test.true)) (digits_good (handles c.args.g) c.args.digits.now c.loop-f.f c.requires.1.1 (rw (← c.listed-c.ensures.0) c.if-digits-c.false) (rw (← c.listed-c.ensures.0) c.loop-f-test.true)))

pub returns : goal.returns
returns c = join_end c.args.g c.args.digits.now (seen_few c.args.g c.requires.1.0 c.if-g-gt8.false c.if-elements-gt4294967295.false) c.listed-c.ensures.0 c.if-digits-c.false c.loop-f.invariant (turned_all (handles c.args.g) c.loop-f.f c.listed-c.ensures.0 c.loop-f-test.false)
