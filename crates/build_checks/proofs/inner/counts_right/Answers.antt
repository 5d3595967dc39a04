use borrow.Author.Tests.{eq-eqb, ne_eqb}
use Rattle.build_checks.specs.Checks.{counts_right}
use Rattle.egg.proofs.Scans.{scanning, stops, goes_on, ends}
use Rattle.build_checks.proofs.inner.counts_right.Goals as goal

pub loop-e-init : goal.loop-e-init
unfolding counts_right
loop-e-init c = scanning

pub returns-then-get-n : goal.returns-then-get-n
returns-then-get-n c = stops c.loop-e.invariant c.loop-e-test.true
    (rw (← c.get.ensures) (simp (ne_eqb _ _ c.if-get-n.true)))

pub loop-e-preserved : goal.loop-e-preserved
loop-e-preserved c = goes_on c.loop-e.invariant c.loop-e-test.true
    (rw (← c.get.ensures) (simp (eq-eqb _ _ c.if-get-n.false)))

pub returns : goal.returns
returns c = ends c.loop-e.invariant c.loop-e-test.false
