use mathlib.Core.Path.{◌∙◌, sym}
use native.Mathlib.Omega.{arith}
use lib.ListN.{length}
use Rattle.egg.proofs.Rooms.{some}
use Rattle.group_handles.specs.Handles.{handles}
use Rattle.group_handles.proofs.Lists.{turned_all}
use Rattle.capi_handles.specs.Product.{product_of}
use Rattle.capi_handles.proofs.Looks.{turn_first}
use Rattle.capi_handles.proofs.Passing.{passing, passes_on, passed_small}
use Rattle.capi_handles_inverse.proofs.Inverting.{inverting, inverts_on, product_small, inverts_none, inverts_all}
use Rattle.capi_handles_inverse.proofs.inner.invert_digits.Goals as goal

pub loop-f-init : goal.loop-f-init
loop-f-init c = (omega arith, (passing (length (c.args.table.now)) (handles (product_of (c.args.l.now) (c.args.count))), inverting (c.args.table.now) (handles (product_of (c.args.l.now) (c.args.count))) (c.args.a)))

pub overflow_mul-f : goal.overflow_mul-f
overflow_mul-f c = omega (arith, (c.listed-c.ensures.1), (c.loop-f-test.true))

pub returns-then-not-fits : goal.returns-then-not-fits
returns-then-not-fits c = inverts_none (c.args.table.now) (c.args.l.now) (c.args.count) (c.loop-f.invariant.1.0) (c.loop-f.invariant.1.1) (turn_first (c.args.l.now) (c.args.count) (c.loop-f.f) (c.listed-c.ensures.0 (c.args.l.now) 0) (c.loop-f-test.true) (c.listed-c.ensures.1) (c.handle_at-h.ensures)) (sym (c.fits.ensures) ∙ c.if-not-fits.true)

pub part-requires : goal.part-requires
part-requires c = (sym (c.fits.ensures) ∙ c.if-not-fits.false)

pub nonzero_rem-x : goal.nonzero_rem-x
nonzero_rem-x c = omega (arith, some (length (c.args.table.now)) (c.handle_at-h.result) (sym (c.fits.ensures) ∙ c.if-not-fits.false))

pub overflow_mul-sum : goal.overflow_mul-sum
overflow_mul-sum c = omega (arith, product_small (c.loop-f.invariant.1.0) (c.loop-f.invariant.1.1) (turn_first (c.args.l.now) (c.args.count) (c.loop-f.f) (c.listed-c.ensures.0 (c.args.l.now) 0) (c.loop-f-test.true) (c.listed-c.ensures.1) (c.handle_at-h.ensures)) (sym (c.fits.ensures) ∙ c.if-not-fits.false) ((c.get-i.ensures) ∙ rw ((c.inverse_at.ensures.at), (c.part.ensures))) (c.chosen.ensures))

pub overflow_add-sum : goal.overflow_add-sum
overflow_add-sum c = omega (arith, product_small (c.loop-f.invariant.1.0) (c.loop-f.invariant.1.1) (turn_first (c.args.l.now) (c.args.count) (c.loop-f.f) (c.listed-c.ensures.0 (c.args.l.now) 0) (c.loop-f-test.true) (c.listed-c.ensures.1) (c.handle_at-h.ensures)) (sym (c.fits.ensures) ∙ c.if-not-fits.false) ((c.get-i.ensures) ∙ rw ((c.inverse_at.ensures.at), (c.part.ensures))) (c.chosen.ensures), (c.loop-f.invariant.1.1.small), (c.listed-c.ensures.1), (c.loop-f-test.true))

pub times-elements-requires : goal.times-elements-requires
times-elements-requires c = passed_small (c.loop-f.invariant.1.0)

pub nonzero_div-x : goal.nonzero_div-x
nonzero_div-x c = omega (arith, some (length (c.args.table.now)) (c.handle_at-h.result) (sym (c.fits.ensures) ∙ c.if-not-fits.false))

pub loop-f-preserved : goal.loop-f-preserved
loop-f-preserved c = (omega (arith, (c.loop-f-test.true)), (passes_on (c.loop-f.invariant.1.0) (turn_first (c.args.l.now) (c.args.count) (c.loop-f.f) (c.listed-c.ensures.0 (c.args.l.now) 0) (c.loop-f-test.true) (c.listed-c.ensures.1) (c.handle_at-h.ensures)) (sym (c.fits.ensures) ∙ c.if-not-fits.false) (c.times-elements.ensures), inverts_on (c.loop-f.invariant.1.0) (c.loop-f.invariant.1.1) (turn_first (c.args.l.now) (c.args.count) (c.loop-f.f) (c.listed-c.ensures.0 (c.args.l.now) 0) (c.loop-f-test.true) (c.listed-c.ensures.1) (c.handle_at-h.ensures)) (sym (c.fits.ensures) ∙ c.if-not-fits.false) ((c.get-i.ensures) ∙ rw ((c.inverse_at.ensures.at), (c.part.ensures))) (c.chosen.ensures) (c.times-elements.ensures) (c.both-right.ensures)))

pub returns : goal.returns
returns c = inverts_all (c.args.table.now) (c.args.l.now) (c.args.count) (c.loop-f.invariant.1.0) (c.loop-f.invariant.1.1) (turned_all (handles (product_of (c.args.l.now) (c.args.count))) (c.loop-f.f) (c.listed-c.ensures.0 (c.args.l.now) 0) (c.loop-f-test.false))
