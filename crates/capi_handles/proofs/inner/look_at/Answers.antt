use Prim.Native.Nat.{◌<◌}
use Rattle.capi_handles.proofs.Looks.{turn_told}
use borrow.Author.Rules.{rules}
use native.Mathlib.Omega.{arith}
use lib.ListN.{length}
use Rattle.group_handles.specs.Handles.{handles}
use Rattle.group_handles.proofs.Lists.{turned_all}
use Rattle.group_handles.proofs.Sums.{looking, looks_on, looks_end}
use Rattle.capi_handles.specs.Product.{product_at}
use Rattle.capi_handles.proofs.inner.look_at.Goals as goal

pub loop-f-init : goal.loop-f-init
loop-f-init c = (omega arith, looking (length ((c.args.from.now))) (handles (product_at ((c.args.l.now)) ((c.args.at)) ((c.args.count)))))

pub overflow_mul-f : goal.overflow_mul-f
overflow_mul-f c = omega (arith, ((c.listed-c.ensures.1)), ((c.loop-f-test.true)))

pub overflow_add-at : goal.overflow_add-at
overflow_add-at c = omega (arith, ((c.listed-c.ensures.1)), ((c.loop-f-test.true)), ((c.requires)))

pub times-elements-requires : goal.times-elements-requires
times-elements-requires c = c.loop-f.invariant.1.caps.small

pub overflow_add-generators : goal.overflow_add-generators
overflow_add-generators c = let k : ((c.handle_at-h.result.generators)) < 256 = search rules in omega (arith, k, ((c.listed-c.ensures.1)), ((c.loop-f-test.true)), ((c.loop-f.invariant.1.adds.small)))

pub loop-f-preserved : goal.loop-f-preserved
loop-f-preserved c = (omega (arith, ((c.loop-f-test.true))), looks_on ((c.loop-f.invariant.1)) (turn_told ((c.args.l.now)) ((c.args.at)) ((c.args.count)) ((c.loop-f.f)) ((c.listed-c.ensures.0) ((c.args.l.now)) ((c.args.at))) ((c.loop-f-test.true)) ((c.listed-c.ensures.1)) ((c.handle_at-h.ensures))) ((c.fits.ensures)) ((c.both-fit.ensures)) ((c.times-elements.ensures)) (search rules))

pub returns : goal.returns
returns c = looks_end ((c.loop-f.invariant.1)) (turned_all (handles (product_at ((c.args.l.now)) ((c.args.at)) ((c.args.count)))) ((c.loop-f.f)) ((c.listed-c.ensures.0) ((c.args.l.now)) ((c.args.at))) ((c.loop-f-test.false)))
