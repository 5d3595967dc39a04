use Rattle.egg.proofs.Refusing.{handed_on}
use Rattle.group_digits.proofs.Walks.{rest_total, stepping, steps_on, steps_refused, steps_found, found_small, part_small, found_within, steps_none, sum_fits, stride_fits}
use lib.ListN.{length}
use mathlib.Core.Path.{◌∙◌}
use Rattle.group_handles.specs.Handles.{handles}
use Rattle.group_handles.proofs.Lists.{turn_at, turned_all, fits_there, some_there, positive}
use native.Mathlib.Nat.{mod-lt}
use native.Mathlib.Omega.{arith}
use Rattle.group_digits.proofs.inner.step_in.Goals as goal

pub loop-f-init : goal.loop-f-init
loop-f-init c = stepping c.args.table.now (handles c.args.g) c.args.e.0 c.args.x.0 c.requires.1.1

pub part-requires : goal.part-requires
part-requires c = (fits_there c.args.g c.loop-f.f c.listed-c.ensures.0 c.loop-f-test.true (length c.args.table.now) c.requires.0)

pub nonzero_rem-rest : goal.nonzero_rem-rest
nonzero_rem-rest c = omega (arith, (some_there c.args.g c.loop-f.f c.listed-c.ensures.0 c.loop-f-test.true (length c.args.table.now) c.requires.0))

pub returns-in_err-d : goal.returns-in_err-d
returns-in_err-d c = handed_on c.from_residual.ensures ∙ steps_refused c.loop-f.invariant (turn_at c.args.g c.loop-f.f c.listed-c.ensures.0 c.loop-f-test.true) c.if-left-h.true (rw c.part.ensures at c.next.ensures) c.in_err-d.was

pub nonzero_div-result : goal.nonzero_div-result
nonzero_div-result c = omega (arith, (some_there c.args.g c.loop-f.f c.listed-c.ensures.0 c.loop-f-test.true (length c.args.table.now) c.requires.0))

pub overflow_mul-result : goal.overflow_mul-result
overflow_mul-result c = omega (arith, part_small c.loop-f.invariant (turn_at c.args.g c.loop-f.f c.listed-c.ensures.0 c.loop-f-test.true) (found_small c.loop-f.invariant (turn_at c.args.g c.loop-f.f c.listed-c.ensures.0 c.loop-f-test.true) c.if-left-h.true (rw c.part.ensures at c.next.ensures) c.in_ok-d.was), rest_total c.loop-f.invariant.walks, c.requires.1.0)

pub overflow_add-result : goal.overflow_add-result
overflow_add-result c = omega (arith, part_small c.loop-f.invariant (turn_at c.args.g c.loop-f.f c.listed-c.ensures.0 c.loop-f-test.true) (found_small c.loop-f.invariant (turn_at c.args.g c.loop-f.f c.listed-c.ensures.0 c.loop-f-test.true) c.if-left-h.true (rw c.part.ensures at c.next.ensures) c.in_ok-d.was), rest_total c.loop-f.invariant.walks, c.requires.1.0)

pub overflow_mul-result-then-left-h : goal.overflow_mul-result-then-left-h
overflow_mul-result-then-left-h c = omega (arith, found_within c.loop-f.invariant (turn_at c.args.g c.loop-f.f c.listed-c.ensures.0 c.loop-f-test.true) (found_small c.loop-f.invariant (turn_at c.args.g c.loop-f.f c.listed-c.ensures.0 c.loop-f-test.true) c.if-left-h.true (rw c.part.ensures at c.next.ensures) c.in_ok-d.was), c.requires.1.0)

pub overflow_add-result-then-left-h : goal.overflow_add-result-then-left-h
overflow_add-result-then-left-h c = omega (arith, found_within c.loop-f.invariant (turn_at c.args.g c.loop-f.f c.listed-c.ensures.0 c.loop-f-test.true) (found_small c.loop-f.invariant (turn_at c.args.g c.loop-f.f c.listed-c.ensures.0 c.loop-f-test.true) c.if-left-h.true (rw c.part.ensures at c.next.ensures) c.in_ok-d.was), c.requires.1.0)

pub returns-then-left-h : goal.returns-then-left-h
returns-then-left-h c = steps_found c.loop-f.invariant (turn_at c.args.g c.loop-f.f c.listed-c.ensures.0 c.loop-f-test.true) c.if-left-h.true (rw c.part.ensures at c.next.ensures) c.in_ok-d.was

pub nonzero_rem-low : goal.nonzero_rem-low
nonzero_rem-low c = omega (arith, (some_there c.args.g c.loop-f.f c.listed-c.ensures.0 c.loop-f-test.true (length c.args.table.now) c.requires.0))

pub overflow_mul-low : goal.overflow_mul-low
overflow_mul-low c = omega (arith, sum_fits c.loop-f.invariant.walks (turn_at c.args.g c.loop-f.f c.listed-c.ensures.0 c.loop-f-test.true) (mod-lt c.loop-f.rest (some_there c.args.g c.loop-f.f c.listed-c.ensures.0 c.loop-f-test.true (length c.args.table.now) c.requires.0)), stride_fits c.loop-f.invariant.walks (turn_at c.args.g c.loop-f.f c.listed-c.ensures.0 c.loop-f-test.true) (positive (length c.args.table.now) (handles c.args.g) c.requires.0), c.requires.1.0)

pub overflow_add-low : goal.overflow_add-low
overflow_add-low c = omega (arith, sum_fits c.loop-f.invariant.walks (turn_at c.args.g c.loop-f.f c.listed-c.ensures.0 c.loop-f-test.true) (mod-lt c.loop-f.rest (some_there c.args.g c.loop-f.f c.listed-c.ensures.0 c.loop-f-test.true (length c.args.table.now) c.requires.0)), stride_fits c.loop-f.invariant.walks (turn_at c.args.g c.loop-f.f c.listed-c.ensures.0 c.loop-f-test.true) (positive (length c.args.table.now) (handles c.args.g) c.requires.0), c.requires.1.0)

pub overflow_mul-stride : goal.overflow_mul-stride
overflow_mul-stride c = omega (arith, stride_fits c.loop-f.invariant.walks (turn_at c.args.g c.loop-f.f c.listed-c.ensures.0 c.loop-f-test.true) (positive (length c.args.table.now) (handles c.args.g) c.requires.0), c.requires.1.0)

pub nonzero_div-rest : goal.nonzero_div-rest
nonzero_div-rest c = omega (arith, (some_there c.args.g c.loop-f.f c.listed-c.ensures.0 c.loop-f-test.true (length c.args.table.now) c.requires.0))

pub loop-f-preserved : goal.loop-f-preserved
loop-f-preserved c = steps_on c.loop-f.invariant (turn_at c.args.g c.loop-f.f c.listed-c.ensures.0 c.loop-f-test.true) (some_there c.args.g c.loop-f.f c.listed-c.ensures.0 c.loop-f-test.true (length c.args.table.now) c.requires.0) c.if-left-h.false

pub returns : goal.returns
returns c = steps_none c.loop-f.invariant (turned_all (handles c.args.g) c.loop-f.f c.listed-c.ensures.0 c.loop-f-test.false)
