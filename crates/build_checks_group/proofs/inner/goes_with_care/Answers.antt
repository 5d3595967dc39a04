use borrow.Author.Tests.{eq-eqb, ne_eqb}
use Rattle.build_checks_group.specs.Lefts.{goes_row}
use Rattle.egg.proofs.Scans.{scanning, stops, goes_on, ends}
use Rattle.build_checks_group.proofs.inner.goes_with_care.Goals as goal

pub loop-g-init : goal.loop-g-init
unfolding goes_row
loop-g-init c = scanning

pub returns-then-get-step : goal.returns-then-get-step
returns-then-get-step c = stops c.loop-g.invariant c.loop-g-test.true
    (rw (← c.get.ensures, ← c.step-y.ensures, ← c.get-in-loop-g.ensures, ← c.step.ensures)
    (simp (ne_eqb _ _ c.if-get-step.true)))

pub loop-g-preserved : goal.loop-g-preserved
loop-g-preserved c = goes_on c.loop-g.invariant c.loop-g-test.true
    (rw (← c.get.ensures, ← c.step-y.ensures, ← c.get-in-loop-g.ensures, ← c.step.ensures)
    (simp (eq-eqb _ _ c.if-get-step.false)))

pub returns : goal.returns
returns c = ends c.loop-g.invariant c.loop-g-test.false
