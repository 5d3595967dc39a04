use borrow.Author.Tests.{eq-eqb, ne_eqb}
use Rattle.build_checks_group.specs.Lefts.{columns_row}
use Rattle.egg.proofs.Scans.{scanning, stops, goes_on, ends}
use Rattle.build_checks_group.proofs.inner.columns_row.Goals as goal

pub loop-g-init : goal.loop-g-init
unfolding columns_row
loop-g-init c = scanning

pub returns-then-step-e : goal.returns-then-step-e
returns-then-step-e c = stops c.loop-g.invariant c.loop-g-test.true (rw (← c.back-from.ensures, ← c.step.ensures) (simp (ne_eqb _ _ c.if-step-e.true)))

pub loop-g-preserved : goal.loop-g-preserved
loop-g-preserved c = goes_on c.loop-g.invariant c.loop-g-test.true
    (rw (← c.back-from.ensures, ← c.step.ensures) (simp (eq-eqb _ _ c.if-step-e.false)))

pub returns : goal.returns
returns c = ends c.loop-g.invariant c.loop-g-test.false
