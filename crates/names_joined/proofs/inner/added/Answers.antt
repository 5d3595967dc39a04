-- The length of the array of bytes is that of the value that came in.
use native.Mathlib.Omega.{arith}
use Rattle.names_joined.proofs.Sums.{adds_first, adds_later}
use Rattle.names_joined.proofs.inner.added.Goals as goal

pub returns-then-f-eq0 : goal.returns-then-f-eq0
returns-then-f-eq0 c = (adds_first c.args.m c.well_formed.1.0.1.1.0.1.0.1 c.requires c.if-f-eq0.true, omega (arith, c.requires))

pub returns-else-f-eq0 : goal.returns-else-f-eq0
returns-else-f-eq0 c = (adds_later c.args.m c.well_formed.1.0.1.1.0.1.0.1 c.requires c.args.f c.if-f-eq0.false, omega (arith, c.requires))
