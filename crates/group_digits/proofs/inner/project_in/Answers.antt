-- No stride and no size is 0.
use native.Mathlib.Omega.{arith}
use Rattle.group_handles.specs.Handles.{handles}
use Rattle.group_digits.proofs.Splits.{stride_pos, size_pos}
use Rattle.group_digits.proofs.inner.project_in.Goals as goal

pub stride_of-requires : goal.stride_of-requires
stride_of-requires c = c.requires

pub nonzero_div-result : goal.nonzero_div-result
nonzero_div-result c = rw c.stride_of.ensures (omega (arith, stride_pos (handles c.args.g) c.args.f c.requires.0))

pub nonzero_rem-result : goal.nonzero_rem-result
nonzero_rem-result c = rw c.size_of-n.ensures (omega (arith, size_pos (handles c.args.g) c.args.f c.requires.0))

pub returns : goal.returns
returns c = rw (c.stride_of.ensures, c.size_of-n.ensures)
