use Rattle.egg.proofs.Refusing.{handed_on}
use Rattle.group_handles.proofs.Lists.{handle_at_lem, turn_at, turned_all, fits_there, some_there, positive}
use Prim.Native.Nat.{◌+◌}
use lib.ListN.{length}
use native.Mathlib.Omega.{arith}
use Rattle.group_handles.specs.Handles.{handles, sizes}
use Rattle.theory_radix.proofs.RadixLaws.{stride_small}
use Rattle.group_digits.proofs.Splits.{stride_on}
use Rattle.group_periods.proofs.Periods.{multiple, multiple_stop, multiple_bound, multiple_on, multiple_end, gcd_pos}
use mathlib.Core.Path.{refl, ◌∙◌}
use Rattle.group_periods.proofs.inner.periods.Goals as goal

pub loop-f-init : goal.loop-f-init
loop-f-init c = multiple c.args.table.now (handles c.args.g) c.args.a.0

pub part-requires : goal.part-requires
part-requires c = (fits_there c.args.g c.loop-f.f c.listed-c.ensures.0 c.loop-f-test.true (length c.args.table.now) c.requires.0)

pub nonzero_rem-rest : goal.nonzero_rem-rest
nonzero_rem-rest c = omega (arith, (some_there c.args.g c.loop-f.f c.listed-c.ensures.0 c.loop-f-test.true (length c.args.table.now) c.requires.0))

pub returns-in_err-p : goal.returns-in_err-p
returns-in_err-p c = handed_on c.from_residual.ensures ∙ multiple_stop c.loop-f.invariant (turn_at c.args.g c.loop-f.f c.listed-c.ensures.0 c.loop-f-test.true) (rw c.part.ensures at c.period_in.ensures) c.in_err-p.was

pub nonzero_div-m : goal.nonzero_div-m
nonzero_div-m c = omega (arith, gcd_pos c.loop-f.m c.in_ok-p.p c.gcd.ensures c.loop-f.invariant.some)

pub overflow_mul-m : goal.overflow_mul-m
overflow_mul-m c = omega (arith, multiple_bound c.loop-f.invariant (turn_at c.args.g c.loop-f.f c.listed-c.ensures.0 c.loop-f-test.true) (rw c.part.ensures at c.period_in.ensures) c.in_ok-p.was c.gcd.ensures (stride_on (handles c.args.g) c.loop-f.f (handle_at_lem c.args.g c.loop-f.f c.listed-c.ensures.0 c.loop-f-test.true) (rw (← c.listed-c.ensures.0) c.loop-f-test.true) refl), stride_small (sizes (handles c.args.g)) (c.loop-f.f + 1) (positive (length c.args.table.now) (handles c.args.g) c.requires.0), c.requires.1)

pub nonzero_div-rest : goal.nonzero_div-rest
nonzero_div-rest c = omega (arith, (some_there c.args.g c.loop-f.f c.listed-c.ensures.0 c.loop-f-test.true (length c.args.table.now) c.requires.0))

pub loop-f-preserved : goal.loop-f-preserved
loop-f-preserved c = multiple_on c.loop-f.invariant (turn_at c.args.g c.loop-f.f c.listed-c.ensures.0 c.loop-f-test.true) (rw c.part.ensures at c.period_in.ensures) c.in_ok-p.was c.gcd.ensures (stride_on (handles c.args.g) c.loop-f.f (handle_at_lem c.args.g c.loop-f.f c.listed-c.ensures.0 c.loop-f-test.true) (rw (← c.listed-c.ensures.0) c.loop-f-test.true) refl)

pub returns : goal.returns
returns c = multiple_end c.loop-f.invariant (turned_all (handles c.args.g) c.loop-f.f c.listed-c.ensures.0 c.loop-f-test.false)
