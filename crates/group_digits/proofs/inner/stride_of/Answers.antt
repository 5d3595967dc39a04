use mathlib.Core.Path.{◌≡◌, refl, ◌∙◌, ap}
use native.Mathlib.Omega.{arith}
use Rattle.group_handles.specs.Handles.{handles, sizes}
use Rattle.theory_radix.specs.Radix.{stride}
use Rattle.group_digits.proofs.Splits.{stride_on, stride_bound}
use Rattle.group_digits.proofs.inner.stride_of.Goals as goal

pub loop-i-init : goal.loop-i-init
loop-i-init c = (omega arith, refl)

pub overflow_mul-s : goal.overflow_mul-s
overflow_mul-s c = omega (arith, stride_bound (handles c.args.g) c.loop-i.i c.handle-s.ensures (omega (arith, c.loop-i-test.true, c.requires.1.1)) c.loop-i.invariant.1 c.requires.0, c.requires.1.0)

pub loop-i-preserved : goal.loop-i-preserved
loop-i-preserved c = (omega (arith, c.loop-i-test.true), stride_on (handles c.args.g) c.loop-i.i c.handle-s.ensures (omega (arith, c.loop-i-test.true, c.requires.1.1)) c.loop-i.invariant.1)

pub returns : goal.returns
returns c = let z : c.loop-i.i ≡ c.args.f = omega (arith, c.loop-i-test.false, c.loop-i.invariant.0) in c.loop-i.invariant.1 ∙ ap (stride (sizes (handles c.args.g))) z
