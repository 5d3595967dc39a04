use native.Mathlib.Nat.{sub-zero, sub-eq-zero_of_le}
use Rattle.build_checks_group.specs.Lefts.{fill_left}
use Rattle.egg.proofs.Scans.{left_suc}
use Rattle.build_checks_group.proofs.inner.fill_left.Goals as goal

pub loop-x-init : goal.loop-x-init
loop-x-init c = rw sub-zero

pub loop-x-preserved : goal.loop-x-preserved
unfolding fill_left
loop-x-preserved c = rw (c.put.ensures, c.left_of-y.ensures) (rw (left_suc c.loop-x-test.true) at c.loop-x.invariant)

pub returns : goal.returns
unfolding fill_left
returns c = rw (sub-eq-zero_of_le c.loop-x-test.false) at c.loop-x.invariant
