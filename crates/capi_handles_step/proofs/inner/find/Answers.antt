use Prim.Native.Nat.{◌<◌}
use mathlib.Core.Path.{◌∙◌, sym}
use borrow.Author.Rules.{rules}
use native.Mathlib.Omega.{arith}
use lib.ListN.{length}
use Rattle.group_handles.specs.Handles.{handles}
use Rattle.group_handles.proofs.Lists.{turned_all}
use Rattle.capi_handles.specs.Product.{product_of}
use Rattle.capi_handles.proofs.Looks.{turn_first}
use Rattle.capi_handles.proofs.Passing.{passing, passes_on, passed_small}
use Rattle.capi_handles_step.proofs.Choosing.{choosing, chooses_on, spots_none, spots}
use Rattle.capi_handles_step.proofs.inner.find.Goals as goal

pub loop-f-init : goal.loop-f-init
loop-f-init c = (omega arith, (passing (length (c.args.table.now)) (handles (product_of (c.args.l.now) (c.args.count))), choosing (handles (product_of (c.args.l.now) (c.args.count))) (c.args.x)))

pub overflow_mul-f : goal.overflow_mul-f
overflow_mul-f c = omega (arith, (c.listed-c.ensures.1), (c.loop-f-test.true))

pub returns-then-not-fits : goal.returns-then-not-fits
returns-then-not-fits c = spots_none (c.args.table.now) (c.args.l.now) (c.args.count) (c.loop-f.invariant.1.0) (c.loop-f.invariant.1.1) (turn_first (c.args.l.now) (c.args.count) (c.loop-f.f) (c.listed-c.ensures.0 (c.args.l.now) 0) (c.loop-f-test.true) (c.listed-c.ensures.1) (c.handle_at-h.ensures)) (sym (c.fits.ensures) ∙ c.if-not-fits.true)

pub times-next-requires : goal.times-next-requires
times-next-requires c = passed_small (c.loop-f.invariant.1.0)

pub overflow_add-generators : goal.overflow_add-generators
overflow_add-generators c = let k : (c.handle_at-h.result.generators) < 256 = search rules in omega (arith, k, (c.listed-c.ensures.1), (c.loop-f-test.true), (c.loop-f.invariant.1.1.small))

pub loop-f-preserved : goal.loop-f-preserved
loop-f-preserved c = (omega (arith, (c.loop-f-test.true)), (passes_on (c.loop-f.invariant.1.0) (turn_first (c.args.l.now) (c.args.count) (c.loop-f.f) (c.listed-c.ensures.0 (c.args.l.now) 0) (c.loop-f-test.true) (c.listed-c.ensures.1) (c.handle_at-h.ensures)) (sym (c.fits.ensures) ∙ c.if-not-fits.false) (c.times-next.ensures), chooses_on (c.loop-f.invariant.1.0) (c.loop-f.invariant.1.1) (turn_first (c.args.l.now) (c.args.count) (c.loop-f.f) (c.listed-c.ensures.0 (c.args.l.now) 0) (c.loop-f-test.true) (c.listed-c.ensures.1) (c.handle_at-h.ensures)) (search rules) (c.chosen-at.ensures) (c.chosen_long-stride.ensures) (c.chosen-before.ensures)))

pub returns : goal.returns
returns c = spots (c.args.table.now) (c.args.l.now) (c.args.count) (c.loop-f.invariant.1.0) (c.loop-f.invariant.1.1) (turned_all (handles (product_of (c.args.l.now) (c.args.count))) (c.loop-f.f) (c.listed-c.ensures.0 (c.args.l.now) 0) (c.loop-f-test.false))
