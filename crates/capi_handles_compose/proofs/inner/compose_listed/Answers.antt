use Rattle.egg.proofs.Refusing.{handed_on}
use mathlib.Core.Path.{◌∙◌}
use native.Mathlib.Omega.{arith}
use Rattle.group_digits.specs.Digits.{Compose}
use Rattle.group_handles.specs.Handles.{handles}
use Rattle.group_handles.proofs.Lists.{turned_all}
use Rattle.capi_handles.specs.Product.{product_of}
use Rattle.capi_handles.proofs.Looks.{turn_first}
use Rattle.capi_handles_compose.proofs.Composing.{composing, handle_fits, some_there, stride_small, sum_small, composes_on, composes_stop, composes_end}
use Rattle.capi_handles_compose.proofs.inner.compose_listed.Goals as goal

pub loop-f-init : goal.loop-f-init
loop-f-init c = composing Compose c.args.table.now (handles (product_of c.args.l.now c.args.count)) c.args.a.0 c.args.b.0 c.requires

pub overflow_mul-f : goal.overflow_mul-f
overflow_mul-f c = omega (arith, c.listed-c.ensures.1, c.loop-f-test.true)

pub part-s-requires : goal.part-s-requires
part-s-requires c = handle_fits c.loop-f.invariant (turn_first c.args.l.now c.args.count c.loop-f.f (c.listed-c.ensures.0 c.args.l.now 0) c.loop-f-test.true c.listed-c.ensures.1 c.handle_at-h.ensures)

pub nonzero_rem-x : goal.nonzero_rem-x
nonzero_rem-x c = omega (arith, some_there c.loop-f.invariant (turn_first c.args.l.now c.args.count c.loop-f.f (c.listed-c.ensures.0 c.args.l.now 0) c.loop-f-test.true c.listed-c.ensures.1 c.handle_at-h.ensures))

pub nonzero_rem-y : goal.nonzero_rem-y
nonzero_rem-y c = omega (arith, some_there c.loop-f.invariant (turn_first c.args.l.now c.args.count c.loop-f.f (c.listed-c.ensures.0 c.args.l.now 0) c.loop-f-test.true c.listed-c.ensures.1 c.handle_at-h.ensures))

pub returns-in_err-d : goal.returns-in_err-d
returns-in_err-d c = handed_on c.from_residual.ensures ∙ composes_stop c.loop-f.invariant (turn_first c.args.l.now c.args.count c.loop-f.f (c.listed-c.ensures.0 c.args.l.now 0) c.loop-f-test.true c.listed-c.ensures.1 c.handle_at-h.ensures) (c.compose_elements.ensures ∙ rw c.part-s.ensures) c.in_err-d.was

pub overflow_mul-sum : goal.overflow_mul-sum
overflow_mul-sum c = omega (arith, sum_small c.loop-f.invariant (turn_first c.args.l.now c.args.count c.loop-f.f (c.listed-c.ensures.0 c.args.l.now 0) c.loop-f-test.true c.listed-c.ensures.1 c.handle_at-h.ensures) (c.compose_elements.ensures ∙ rw c.part-s.ensures) c.in_ok-d.was)

pub overflow_add-sum : goal.overflow_add-sum
overflow_add-sum c = omega (arith, sum_small c.loop-f.invariant (turn_first c.args.l.now c.args.count c.loop-f.f (c.listed-c.ensures.0 c.args.l.now 0) c.loop-f-test.true c.listed-c.ensures.1 c.handle_at-h.ensures) (c.compose_elements.ensures ∙ rw c.part-s.ensures) c.in_ok-d.was)

pub overflow_mul-stride : goal.overflow_mul-stride
overflow_mul-stride c = omega (arith, stride_small c.loop-f.invariant (turn_first c.args.l.now c.args.count c.loop-f.f (c.listed-c.ensures.0 c.args.l.now 0) c.loop-f-test.true c.listed-c.ensures.1 c.handle_at-h.ensures))

pub nonzero_div-x : goal.nonzero_div-x
nonzero_div-x c = omega (arith, some_there c.loop-f.invariant (turn_first c.args.l.now c.args.count c.loop-f.f (c.listed-c.ensures.0 c.args.l.now 0) c.loop-f-test.true c.listed-c.ensures.1 c.handle_at-h.ensures))

pub nonzero_div-y : goal.nonzero_div-y
nonzero_div-y c = omega (arith, some_there c.loop-f.invariant (turn_first c.args.l.now c.args.count c.loop-f.f (c.listed-c.ensures.0 c.args.l.now 0) c.loop-f-test.true c.listed-c.ensures.1 c.handle_at-h.ensures))

pub loop-f-preserved : goal.loop-f-preserved
loop-f-preserved c = composes_on c.loop-f.invariant (turn_first c.args.l.now c.args.count c.loop-f.f (c.listed-c.ensures.0 c.args.l.now 0) c.loop-f-test.true c.listed-c.ensures.1 c.handle_at-h.ensures) (c.compose_elements.ensures ∙ rw c.part-s.ensures) c.in_ok-d.was

pub returns : goal.returns
returns c = composes_end c.loop-f.invariant (turned_all (handles (product_of c.args.l.now c.args.count)) c.loop-f.f (c.listed-c.ensures.0 c.args.l.now 0) c.loop-f-test.false)
