use native.Mathlib.Nat.{sub-zero, sub-eq-zero_of_le}
use Rattle.build_checks.specs.Checks.{wiped}
use Rattle.egg.proofs.Scans.{left_suc}
use Rattle.build_checks.proofs.inner.wipe.Goals as goal

pub loop-e-init : goal.loop-e-init
loop-e-init c = rw sub-zero

pub loop-e-preserved : goal.loop-e-preserved
unfolding wiped
loop-e-preserved c = rw c.put.ensures (rw (left_suc c.loop-e-test.true) at c.loop-e.invariant)

pub returns : goal.returns
unfolding wiped
returns c = rw (sub-eq-zero_of_le c.loop-e-test.false) at c.loop-e.invariant
