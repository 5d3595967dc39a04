use borrow.Author.Tests.{eq-eqb, ne_eqb}
use Rattle.build_checks.specs.Checks.{missing_row}
use Rattle.egg.proofs.Scans.{scanning, stops, goes_on, ends}
use Rattle.build_checks.proofs.inner.missing_row.Goals as goal

pub loop-g-init : goal.loop-g-init
unfolding missing_row
loop-g-init c = scanning

pub returns-then-cell-eq0 : goal.returns-then-cell-eq0
returns-then-cell-eq0 c = stops c.loop-g.invariant c.loop-g-test.true
    (rw (← c.cell.ensures) (simp (eq-eqb _ _ c.if-cell-eq0.true)))

pub loop-g-preserved : goal.loop-g-preserved
loop-g-preserved c = goes_on c.loop-g.invariant c.loop-g-test.true
    (rw (← c.cell.ensures) (simp (ne_eqb _ _ c.if-cell-eq0.false)))

pub returns : goal.returns
returns c = ends c.loop-g.invariant c.loop-g-test.false
