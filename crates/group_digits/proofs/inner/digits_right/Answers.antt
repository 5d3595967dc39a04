use native.Mathlib.Omega.{arith}
use Rattle.group_handles.specs.Handles.{handles, sizes}
use Rattle.egg.proofs.Scans.{stops, goes_on, ends}
use Rattle.group_digits.proofs.Splits.{digits_begin, digit_bad, digit_good}
use Rattle.group_digits.proofs.inner.digits_right.Goals as goal

pub loop-f-init : goal.loop-f-init
loop-f-init c = digits_begin (handles c.args.g) c.args.digits.now c.listed.ensures.0 c.fewer-c.ensures.0

pub overflow_cast-result : goal.overflow_cast-result
overflow_cast-result c = omega (arith, c.loop-f-test.true, c.fewer-c.ensures.1.0, c.listed.ensures.1)

pub returns-then-size_of-get : goal.returns-then-size_of-get
returns-then-size_of-get c = stops c.loop-f.invariant c.loop-f-test.true (digit_bad (sizes (handles c.args.g)) c.args.digits.now c.loop-f.f c.size_of.ensures c.get.ensures c.if-size_of-get.true)

pub loop-f-preserved : goal.loop-f-preserved
loop-f-preserved c = goes_on c.loop-f.invariant c.loop-f-test.true (digit_good (sizes (handles c.args.g)) c.args.digits.now c.loop-f.f c.size_of.ensures c.get.ensures c.if-size_of-get.false)

pub returns : goal.returns
returns c = ends c.loop-f.invariant c.loop-f-test.false
