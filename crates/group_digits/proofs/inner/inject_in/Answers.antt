-- The stride times a digit is at most the count.
use native.Mathlib.Omega.{arith}
use Rattle.group_handles.specs.Handles.{handles}
use Rattle.group_digits.proofs.Splits.{inject_bound}
use Rattle.group_digits.proofs.inner.inject_in.Goals as goal

pub stride_of-requires : goal.stride_of-requires
stride_of-requires c = (c.requires.0, (c.requires.1.0, c.requires.1.1.0))

pub overflow_mul-result : goal.overflow_mul-result
overflow_mul-result c = omega (arith, inject_bound (handles c.args.g) c.args.f c.args.x.0 c.requires.0 c.stride_of.ensures c.requires.1.1.1, c.requires.1.0)

pub returns : goal.returns
returns c = rw c.stride_of.ensures
