use native.Mathlib.Nat.{sub-zero, sub-eq-zero_of_le}
use Rattle.build_checks.specs.Checks.{arrive_row}
use Rattle.egg.proofs.Scans.{left_suc}
use Rattle.build_checks.proofs.inner.arrive_row.Goals as goal

pub loop-g-init : goal.loop-g-init
loop-g-init c = rw sub-zero

pub loop-g-preserved : goal.loop-g-preserved
unfolding arrive_row
loop-g-preserved c = rw (c.put.ensures, c.get-was.ensures, c.step-r.ensures) (rw (left_suc c.loop-g-test.true) at c.loop-g.invariant)

pub returns : goal.returns
unfolding arrive_row
returns c = rw (sub-eq-zero_of_le c.loop-g-test.false) at c.loop-g.invariant
