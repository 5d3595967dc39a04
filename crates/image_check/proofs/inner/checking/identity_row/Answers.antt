use borrow.Author.Tests.{eq-eqb, ne_eqb}
use Rattle.build_checks_group.specs.Lefts.{identity_row}
use Rattle.egg.proofs.Scans.{scanning, stops, goes_on, ends}
use Rattle.image_check.proofs.inner.checking.identity_row.Goals as goal

pub loop-g-init : goal.loop-g-init
unfolding identity_row
loop-g-init c = scanning

pub returns-then-step-g : goal.returns-then-step-g
returns-then-step-g c = stops c.loop-g.invariant c.loop-g-test.true
    (rw (← c.step.ensures) (simp (ne_eqb _ _ c.if-step-g.true)))

pub loop-g-preserved : goal.loop-g-preserved
loop-g-preserved c = goes_on c.loop-g.invariant c.loop-g-test.true
    (rw (← c.step.ensures) (simp (eq-eqb _ _ c.if-step-g.false)))

pub returns : goal.returns
returns c = ends c.loop-g.invariant c.loop-g-test.false
