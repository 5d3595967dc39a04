use Rattle.egg.proofs.Refusing.{handed_on}
use mathlib.Core.Path.{◌∙◌}
use Prim.Native.Nat.{◌%◌}
use lib.ListN.{length, get_or}
use native.Mathlib.Nat.{mod-lt}
use native.Mathlib.Omega.{arith}
use Rattle.build_lending.specs.Lending.{no_factor}
use Rattle.group_handles.specs.Handles.{handles}
use Rattle.group_digits.specs.Digits.{Inverse}
use Rattle.group_handles.proofs.Lists.{turn_at, turned_all, fits_there, some_there, positive}
use Rattle.group_digits.proofs.Walks.{gathering, gathers_on, gathers_stop, gathers_end, below_element, digit_below, digit_inverse, sum_fits, stride_fits}
use Rattle.group_digits.proofs.inner.inverse_digits.Goals as goal

pub loop-f-init : goal.loop-f-init
loop-f-init c = (0, gathering (handles c.args.g) c.args.a.0 0)

pub part-s-requires : goal.part-s-requires
part-s-requires c = fits_there c.args.g c.loop-f.f c.listed-c.ensures.0 c.loop-f-test.true (length c.args.table.now) c.requires.0

pub nonzero_rem-x : goal.nonzero_rem-x
nonzero_rem-x c = omega (arith, (some_there c.args.g c.loop-f.f c.listed-c.ensures.0 c.loop-f-test.true (length c.args.table.now) c.requires.0))

pub returns-in_err-d : goal.returns-in_err-d
returns-in_err-d c = handed_on c.from_residual.ensures ∙ gathers_stop c.loop-f.invariant.1 (turn_at c.args.g c.loop-f.f c.listed-c.ensures.0 c.loop-f-test.true) (digit_inverse c.args.table.now (get_or c.args.g.factors c.loop-f.f no_factor) (c.loop-f.x % (get_or c.args.g.factors c.loop-f.f no_factor).elements) 0 c.part-s.ensures c.inverse_in.ensures) c.in_err-d.was

pub overflow_mul-sum : goal.overflow_mul-sum
overflow_mul-sum c = omega (arith, sum_fits c.loop-f.invariant.1.walks (turn_at c.args.g c.loop-f.f c.listed-c.ensures.0 c.loop-f-test.true) (below_element (digit_below Inverse c.args.table.now (get_or c.args.g.factors c.loop-f.f no_factor) (c.loop-f.x % (get_or c.args.g.factors c.loop-f.f no_factor).elements) 0 (mod-lt c.loop-f.x (some_there c.args.g c.loop-f.f c.listed-c.ensures.0 c.loop-f-test.true (length c.args.table.now) c.requires.0))) (digit_inverse c.args.table.now (get_or c.args.g.factors c.loop-f.f no_factor) (c.loop-f.x % (get_or c.args.g.factors c.loop-f.f no_factor).elements) 0 c.part-s.ensures c.inverse_in.ensures) c.in_ok-d.was), stride_fits c.loop-f.invariant.1.walks (turn_at c.args.g c.loop-f.f c.listed-c.ensures.0 c.loop-f-test.true) (positive (length c.args.table.now) (handles c.args.g) c.requires.0), c.requires.1)

pub overflow_add-sum : goal.overflow_add-sum
overflow_add-sum c = omega (arith, sum_fits c.loop-f.invariant.1.walks (turn_at c.args.g c.loop-f.f c.listed-c.ensures.0 c.loop-f-test.true) (below_element (digit_below Inverse c.args.table.now (get_or c.args.g.factors c.loop-f.f no_factor) (c.loop-f.x % (get_or c.args.g.factors c.loop-f.f no_factor).elements) 0 (mod-lt c.loop-f.x (some_there c.args.g c.loop-f.f c.listed-c.ensures.0 c.loop-f-test.true (length c.args.table.now) c.requires.0))) (digit_inverse c.args.table.now (get_or c.args.g.factors c.loop-f.f no_factor) (c.loop-f.x % (get_or c.args.g.factors c.loop-f.f no_factor).elements) 0 c.part-s.ensures c.inverse_in.ensures) c.in_ok-d.was), stride_fits c.loop-f.invariant.1.walks (turn_at c.args.g c.loop-f.f c.listed-c.ensures.0 c.loop-f-test.true) (positive (length c.args.table.now) (handles c.args.g) c.requires.0), c.requires.1)

pub overflow_mul-stride : goal.overflow_mul-stride
overflow_mul-stride c = omega (arith, stride_fits c.loop-f.invariant.1.walks (turn_at c.args.g c.loop-f.f c.listed-c.ensures.0 c.loop-f-test.true) (positive (length c.args.table.now) (handles c.args.g) c.requires.0), c.requires.1)

pub nonzero_div-x : goal.nonzero_div-x
nonzero_div-x c = omega (arith, (some_there c.args.g c.loop-f.f c.listed-c.ensures.0 c.loop-f-test.true (length c.args.table.now) c.requires.0))

pub loop-f-preserved : goal.loop-f-preserved
loop-f-preserved c = (_, gathers_on c.loop-f.invariant.1 (turn_at c.args.g c.loop-f.f c.listed-c.ensures.0 c.loop-f-test.true) (digit_inverse c.args.table.now (get_or c.args.g.factors c.loop-f.f no_factor) (c.loop-f.x % (get_or c.args.g.factors c.loop-f.f no_factor).elements) 0 c.part-s.ensures c.inverse_in.ensures) c.in_ok-d.was (below_element (digit_below Inverse c.args.table.now (get_or c.args.g.factors c.loop-f.f no_factor) (c.loop-f.x % (get_or c.args.g.factors c.loop-f.f no_factor).elements) 0 (mod-lt c.loop-f.x (some_there c.args.g c.loop-f.f c.listed-c.ensures.0 c.loop-f-test.true (length c.args.table.now) c.requires.0))) (digit_inverse c.args.table.now (get_or c.args.g.factors c.loop-f.f no_factor) (c.loop-f.x % (get_or c.args.g.factors c.loop-f.f no_factor).elements) 0 c.part-s.ensures c.inverse_in.ensures) c.in_ok-d.was))

pub returns : goal.returns
returns c = gathers_end c.loop-f.invariant.1 (turned_all (handles c.args.g) c.loop-f.f c.listed-c.ensures.0 c.loop-f-test.false)
