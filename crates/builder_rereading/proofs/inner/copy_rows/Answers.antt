use native.Mathlib.Nat.{sub-zero, sub-eq-zero_of_le}
use Rattle.egg.proofs.Scans.{left_suc}
use Rattle.builder_rereading.specs.Own.{copied}
use Rattle.builder_rereading.proofs.inner.copy_rows.Goals as goal

pub loop-e-init : goal.loop-e-init
loop-e-init c = rw sub-zero

pub loop-e-preserved : goal.loop-e-preserved
unfolding copied
loop-e-preserved c = rw c.copy_row.ensures (rw (left_suc c.loop-e-test.true) at c.loop-e.invariant)

pub returns : goal.returns
unfolding copied
returns c = rw (sub-eq-zero_of_le c.loop-e-test.false) at c.loop-e.invariant
