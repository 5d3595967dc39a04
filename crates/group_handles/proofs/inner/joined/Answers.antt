-- At most eight handles, by their places.
use Rattle.group_handles.specs.Handles.{handles}
use Rattle.group_handles.proofs.Sums.{both_length, eight_are}
use mathlib.Core.List.{◌++◌}
use native.Mathlib.Omega.{arith}
use Rattle.group_handles.proofs.inner.joined.Goals as goal

pub overflow_add-result : goal.overflow_add-result
overflow_add-result c = omega (arith, c.listed.ensures.1, c.listed-2.ensures.1)

pub returns : goal.returns
returns c = eight_are (handles c.args.a ++ handles c.args.b) (rw (both_length (handles c.args.a) (handles c.args.b)) c.requires) c.either.ensures c.either-2.ensures c.either-3.ensures c.either-4.ensures c.either-5.ensures c.either-6.ensures c.either-7.ensures c.either-8.ensures (rw (both_length (handles c.args.a) (handles c.args.b), ← c.listed.ensures.0, ← c.listed-2.ensures.0) (omega (arith, c.listed.ensures.1, c.listed-2.ensures.1)))
