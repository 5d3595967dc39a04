use Rattle.egg.proofs.Refusing.{handed_on}
use mathlib.Core.Path.{◌∙◌}
use lib.ListN.{length}
use native.Mathlib.Omega.{arith}
use Rattle.group_handles.proofs.Lists.{turn_at, turned_all, fits_there, some_there}
use Rattle.group_handles.specs.Handles.{handles}
use Rattle.group_words.proofs.Spelling.{measuring, measures_stop, measures_on, measures_end}
use Rattle.group_words.proofs.inner.lengths.Goals as goal

pub loop-f-init : goal.loop-f-init
loop-f-init c = (omega arith, measuring c.args.table.now (handles c.args.g) c.args.e.0)

pub part-requires : goal.part-requires
part-requires c = (fits_there c.args.g c.loop-f.f c.listed-c.ensures.0 c.loop-f-test.true (length c.args.table.now) c.requires)

pub nonzero_rem-rest : goal.nonzero_rem-rest
nonzero_rem-rest c = omega (arith, (some_there c.args.g c.loop-f.f c.listed-c.ensures.0 c.loop-f-test.true (length c.args.table.now) c.requires))

pub returns-in_err-k : goal.returns-in_err-k
returns-in_err-k c = handed_on c.from_residual.ensures ∙ measures_stop c.loop-f.invariant.1 (turn_at c.args.g c.loop-f.f c.listed-c.ensures.0 c.loop-f-test.true) (rw c.part.ensures at c.length_in.ensures) c.in_err-k.was

pub overflow_add-sum : goal.overflow_add-sum
overflow_add-sum c = omega (arith, c.loop-f.invariant.1.small, c.listed-c.ensures.1, c.loop-f-test.true, (measures_on c.loop-f.invariant.1 (turn_at c.args.g c.loop-f.f c.listed-c.ensures.0 c.loop-f-test.true) (rw c.part.ensures at c.length_in.ensures) c.in_ok-k.was).small)

pub nonzero_div-rest : goal.nonzero_div-rest
nonzero_div-rest c = omega (arith, (some_there c.args.g c.loop-f.f c.listed-c.ensures.0 c.loop-f-test.true (length c.args.table.now) c.requires))

pub loop-f-preserved : goal.loop-f-preserved
loop-f-preserved c = (omega (arith, c.loop-f-test.true), measures_on c.loop-f.invariant.1 (turn_at c.args.g c.loop-f.f c.listed-c.ensures.0 c.loop-f-test.true) (rw c.part.ensures at c.length_in.ensures) c.in_ok-k.was)

pub returns : goal.returns
returns c = measures_end c.loop-f.invariant.1 (turned_all (handles c.args.g) c.loop-f.f c.listed-c.ensures.0 c.loop-f-test.false)
