use Rattle.egg.proofs.Refusing.{handed_on}
use native.Mathlib.Nat.{sub-zero, sub-eq-zero_of_le}
use Rattle.build_checks_group.specs.Lefts.{lefts}
use Rattle.egg.proofs.Scans.{left_suc}
use Rattle.build_checks_group.proofs.inner.check12.Goals as goal

pub loop-s-init : goal.loop-s-init
loop-s-init c = rw sub-zero

pub returns-in_err-all_go : goal.returns-in_err-all_go
unfolding lefts
returns-in_err-all_go c = rw (handed_on c.from_residual.ensures)
    (rw (left_suc c.loop-s-test.true, ← c.fill_left.ensures, ← c.all_go.ensures, c.in_err-all_go.was) at c.loop-s.invariant)

pub loop-s-preserved : goal.loop-s-preserved
unfolding lefts
loop-s-preserved c = rw (left_suc c.loop-s-test.true, ← c.fill_left.ensures, ← c.all_go.ensures, c.in_ok-all_go.was) at c.loop-s.invariant

pub returns : goal.returns
unfolding lefts
returns c = rw (sub-eq-zero_of_le c.loop-s-test.false) at c.loop-s.invariant
