-- The bytes of the name are the first of 32.
use native.Mathlib.Omega.{arith}
use mathlib.Core.Path.{sym}
use Rattle.names_joined.proofs.Sums.{name_long}
use Rattle.names_joined.proofs.inner.put_name.Goals as goal

pub slice_bounds-bytes-end : goal.slice_bounds-bytes-end
slice_bounds-bytes-end c = omega (arith, c.requires.0, c.well_formed.1.1.0.1.1.0.1.0.1)

pub slice_bounds-put_at-end : goal.slice_bounds-put_at-end
slice_bounds-put_at-end c = sym (name_long c.args.m c.well_formed.1.1.0.1.1.0.1.0.1 c.requires.0)
