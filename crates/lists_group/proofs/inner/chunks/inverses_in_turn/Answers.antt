use Rattle.lists_group.proofs.Turns.{together, low, inverts_on, gathered}
use Rattle.group_handles.proofs.Lists.{turn_at, turned_all, fits_there, some_there, positive}
use Rattle.group_digits.proofs.Walks.{stride_fits}
use Rattle.group_digits.specs.Digits.{Inverse}
use Rattle.group_handles.specs.Handles.{handles}
use Rattle.egg.proofs.Rooms.{false_true}
use mathlib.Core.Path.{refl, ◌∙◌}
use mathlib.Core.List.{[]}
use native.Mathlib.Omega.{arith}
use lib.ListN.{length}
use Rattle.lists_group.proofs.inner.chunks.inverses_in_turn.Goals as goal

pub loop-f-init : goal.loop-f-init
loop-f-init c = (together Inverse c.args.table.now (handles c.args.g) c.args.xs.now [] c.requires.1.nothing, (refl, refl))

pub part-s-requires : goal.part-s-requires
part-s-requires c = fits_there c.args.g c.loop-f.f c.listed-c.ensures.0 c.loop-f-test.true (length c.args.table.now) c.requires.0.0

pub invert-requires : goal.invert-requires
invert-requires c = ((some_there c.args.g c.loop-f.f c.listed-c.ensures.0 c.loop-f-test.true (length c.args.table.now) c.requires.0.0, omega (arith, stride_fits c.loop-f.invariant.0.strides (turn_at c.args.g c.loop-f.f c.listed-c.ensures.0 c.loop-f-test.true) (positive (length c.args.table.now) (handles c.args.g) c.requires.0.0), c.requires.0.1)), (omega (arith, c.requires.1.firsts, c.loop-f.invariant.1.0), (omega (arith, c.requires.1.results, c.loop-f.invariant.1.1), low c.loop-f.invariant.0)))

pub shape_of-xs-then-not-invert : goal.shape_of-xs-then-not-invert
shape_of-xs-then-not-invert c = c.invert.auto.rest ∙ c.loop-f.invariant.1.0

pub shape_of-sums-then-not-invert : goal.shape_of-sums-then-not-invert
shape_of-sums-then-not-invert c = c.invert.auto.sums ∙ c.loop-f.invariant.1.1

pub returns-then-not-invert : goal.returns-then-not-invert
returns-then-not-invert c = λ h. absurd (false_true h)

pub overflow_mul-stride : goal.overflow_mul-stride
overflow_mul-stride c = omega (arith, stride_fits c.loop-f.invariant.0.strides (turn_at c.args.g c.loop-f.f c.listed-c.ensures.0 c.loop-f-test.true) (positive (length c.args.table.now) (handles c.args.g) c.requires.0.0), c.requires.0.1)

pub loop-f-preserved : goal.loop-f-preserved
loop-f-preserved c = (inverts_on c.loop-f.invariant.0 (turn_at c.args.g c.loop-f.f c.listed-c.ensures.0 c.loop-f-test.true) (some_there c.args.g c.loop-f.f c.listed-c.ensures.0 c.loop-f-test.true (length c.args.table.now) c.requires.0.0) c.part-s.ensures (c.invert.ensures c.if-not-invert.false), (c.invert.auto.rest ∙ c.loop-f.invariant.1.0, c.invert.auto.sums ∙ c.loop-f.invariant.1.1))

pub shape_of-xs : goal.shape_of-xs
shape_of-xs c = c.loop-f.invariant.1.0

pub shape_of-sums : goal.shape_of-sums
shape_of-sums c = c.loop-f.invariant.1.1

pub returns : goal.returns
returns c = λ h. gathered c.loop-f.invariant.0 (turned_all (handles c.args.g) c.loop-f.f c.listed-c.ensures.0 c.loop-f-test.false)
