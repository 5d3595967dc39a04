use borrow.Author.Tests.{lt-ltb, le-ltb}
use Rattle.build_checks.specs.Checks.{range_row}
use Rattle.egg.proofs.Scans.{scanning, stops, goes_on, ends}
use Rattle.build_checks.proofs.inner.range_row.Goals as goal

pub loop-k-init : goal.loop-k-init
unfolding range_row
loop-k-init c = scanning

pub returns-then-count-cell : goal.returns-then-count-cell
returns-then-count-cell c = stops c.loop-k.invariant c.loop-k-test.true
    (rw (← c.cell.ensures) (simp (lt-ltb _ _ c.if-count-cell.true)))

pub loop-k-preserved : goal.loop-k-preserved
loop-k-preserved c = goes_on c.loop-k.invariant c.loop-k-test.true
    (rw (← c.cell.ensures) (simp (le-ltb _ _ c.if-count-cell.false)))

pub returns : goal.returns
returns c = ends c.loop-k.invariant c.loop-k-test.false
