use Rattle.lists_group.proofs.Turns.{together, addable, turns, gathered}
use Rattle.group_handles.proofs.Lists.{turn_at, turned_all, fits_there, some_there, positive}
use Rattle.group_digits.proofs.Walks.{stride_fits}
use Rattle.group_digits.specs.Digits.{Compose}
use Rattle.group_handles.specs.Handles.{handles}
use Rattle.egg.proofs.Rooms.{false_true}
use mathlib.Core.Path.{refl, sym, ◌∙◌}
use native.Mathlib.Omega.{arith}
use lib.ListN.{length}
use lib.Seq.{length-take-le}
use Rattle.lists_group.proofs.inner.chunks.factors_in_turn.Goals as goal

pub loop-f-init : goal.loop-f-init
loop-f-init c = (together Compose (c.args.table.now) (handles (c.args.g)) (c.args.xs.now) (c.args.ys.now) (c.requires.1.nothing), ((refl, (refl, refl)), (refl, (refl, refl))))

pub slice_bounds-cut-end : goal.slice_bounds-cut-end
slice_bounds-cut-end c = sym (c.loop-f.invariant.1.1.0)

pub cut-requires : goal.cut-requires
cut-requires c = ((some_there (c.args.g) (c.loop-f.f) (c.listed-c.ensures.0) (c.loop-f-test.true) (length (c.args.table.now)) (c.requires.0.0)), (omega (arith, c.requires.1.firsts, c.loop-f.invariant.1.0.0), omega (arith, c.requires.1.few, c.loop-f.invariant.1.1.0)))

pub slice_bounds-cut-end-in-loop-f : goal.slice_bounds-cut-end-in-loop-f
slice_bounds-cut-end-in-loop-f c = sym (c.loop-f.invariant.1.1.1.0)

pub cut-requires-in-loop-f : goal.cut-requires-in-loop-f
cut-requires-in-loop-f c = ((some_there (c.args.g) (c.loop-f.f) (c.listed-c.ensures.0) (c.loop-f-test.true) (length (c.args.table.now)) (c.requires.0.0)), (omega (arith, c.requires.1.seconds, c.loop-f.invariant.1.0.1.0), omega (arith, c.requires.1.few, c.loop-f.invariant.1.1.1.0)))

pub part-s-requires : goal.part-s-requires
part-s-requires c = fits_there (c.args.g) (c.loop-f.f) (c.listed-c.ensures.0) (c.loop-f-test.true) (length (c.args.table.now)) (c.requires.0.0)

pub slice_bounds-dx-end : goal.slice_bounds-dx-end
slice_bounds-dx-end c = omega (arith, c.requires.1.few)

pub slice_bounds-products-end : goal.slice_bounds-products-end
slice_bounds-products-end c = sym (length-take-le (c.args.k) (c.cut.new.digits) (omega (arith, c.cut.auto.digits, c.loop-f.invariant.1.1.0, c.requires.1.few)))

pub slice_bounds-dy-end : goal.slice_bounds-dy-end
slice_bounds-dy-end c = omega (arith, c.requires.1.few)

pub slice_bounds-products-end-in-loop-f : goal.slice_bounds-products-end-in-loop-f
slice_bounds-products-end-in-loop-f c = sym (length-take-le (c.args.k) (c.cut-in-loop-f.new.digits) (omega (arith, c.cut-in-loop-f.auto.digits, c.loop-f.invariant.1.1.1.0, c.requires.1.few)))

pub slice_bounds-products-end-in-loop-f-2 : goal.slice_bounds-products-end-in-loop-f-2
slice_bounds-products-end-in-loop-f-2 c = sym (c.loop-f.invariant.1.1.1.1)

pub products-requires : goal.products-requires
products-requires c = ((length-take-le (c.args.k) (c.cut-in-loop-f.new.digits) (omega (arith, c.cut-in-loop-f.auto.digits, c.loop-f.invariant.1.1.1.0, c.requires.1.few))) ∙ sym (length-take-le (c.args.k) (c.cut.new.digits) (omega (arith, c.cut.auto.digits, c.loop-f.invariant.1.1.0, c.requires.1.few))), omega (arith, (length-take-le (c.args.k) (c.cut.new.digits) (omega (arith, c.cut.auto.digits, c.loop-f.invariant.1.1.0, c.requires.1.few))), c.requires.1.few, c.loop-f.invariant.1.1.1.1))

pub shape_of-xs-then-not-products : goal.shape_of-xs-then-not-products
shape_of-xs-then-not-products c = c.cut.auto.rest ∙ c.loop-f.invariant.1.0.0

pub shape_of-ys-then-not-products : goal.shape_of-ys-then-not-products
shape_of-ys-then-not-products c = c.cut-in-loop-f.auto.rest ∙ c.loop-f.invariant.1.0.1.0

pub shape_of-sums-then-not-products : goal.shape_of-sums-then-not-products
shape_of-sums-then-not-products c = c.loop-f.invariant.1.0.1.1

pub returns-then-not-products : goal.returns-then-not-products
returns-then-not-products c = λ h. absurd (false_true h)

pub slice_bounds-add-end : goal.slice_bounds-add-end
slice_bounds-add-end c = sym (c.products.auto.results ∙ c.loop-f.invariant.1.1.1.1)

pub add-requires : goal.add-requires
add-requires c = (omega (arith, c.products.auto.results ∙ c.loop-f.invariant.1.1.1.1, c.requires.1.few), (omega (arith, c.requires.1.results, c.loop-f.invariant.1.0.1.1), addable (c.loop-f.invariant.0) (c.products.ensures (c.if-not-products.false)) (length-take-le (c.args.k) (c.cut.new.digits) (omega (arith, c.cut.auto.digits, c.loop-f.invariant.1.1.0, c.requires.1.few))) (omega (arith, stride_fits (c.loop-f.invariant.0.strides) (turn_at (c.args.g) (c.loop-f.f) (c.listed-c.ensures.0) (c.loop-f-test.true)) (positive (length (c.args.table.now)) (handles (c.args.g)) (c.requires.0.0)), c.requires.0.1))))

pub overflow_mul-stride : goal.overflow_mul-stride
overflow_mul-stride c = omega (arith, stride_fits (c.loop-f.invariant.0.strides) (turn_at (c.args.g) (c.loop-f.f) (c.listed-c.ensures.0) (c.loop-f-test.true)) (positive (length (c.args.table.now)) (handles (c.args.g)) (c.requires.0.0)), c.requires.0.1)

pub loop-f-preserved : goal.loop-f-preserved
loop-f-preserved c = (
  turns (c.loop-f.invariant.0) (c.products.ensures (c.if-not-products.false)) (length-take-le (c.args.k) (c.cut.new.digits) (omega (arith, c.cut.auto.digits, c.loop-f.invariant.1.1.0, c.requires.1.few))) (turn_at (c.args.g) (c.loop-f.f) (c.listed-c.ensures.0) (c.loop-f-test.true)) (some_there (c.args.g) (c.loop-f.f) (c.listed-c.ensures.0) (c.loop-f-test.true) (length (c.args.table.now)) (c.requires.0.0)) (c.part-s.ensures) refl refl (c.cut.ensures) (c.cut-in-loop-f.ensures) refl refl (c.add.ensures),
  ((c.cut.auto.rest ∙ c.loop-f.invariant.1.0.0, (c.cut-in-loop-f.auto.rest ∙ c.loop-f.invariant.1.0.1.0, c.add.auto.sums ∙ c.loop-f.invariant.1.0.1.1)), (c.cut.auto.digits ∙ c.loop-f.invariant.1.1.0, (c.cut-in-loop-f.auto.digits ∙ c.loop-f.invariant.1.1.1.0, c.products.auto.results ∙ c.loop-f.invariant.1.1.1.1))),
)

pub shape_of-xs : goal.shape_of-xs
shape_of-xs c = c.loop-f.invariant.1.0.0

pub shape_of-ys : goal.shape_of-ys
shape_of-ys c = c.loop-f.invariant.1.0.1.0

pub shape_of-sums : goal.shape_of-sums
shape_of-sums c = c.loop-f.invariant.1.0.1.1

pub returns : goal.returns
returns c = λ h. gathered (c.loop-f.invariant.0) (turned_all (handles (c.args.g)) (c.loop-f.f) (c.listed-c.ensures.0) (c.loop-f-test.false))
