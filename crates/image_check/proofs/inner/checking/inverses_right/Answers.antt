use borrow.Author.Tests.{eq-eqb, ne_eqb}
use Rattle.build_checks_inverses.specs.Inverses.{inverses_right}
use Rattle.egg.proofs.Scans.{scanning, stops, goes_on, ends}
use Rattle.image_check.proofs.inner.checking.inverses_right.Goals as goal

pub loop-e-init : goal.loop-e-init
unfolding inverses_right
loop-e-init c = scanning

pub returns-then-j-e : goal.returns-then-j-e
returns-then-j-e c = stops c.loop-e.invariant c.loop-e-test.true
    (rw (← c.inverse_at.ensures.at, ← c.get-i.ensures, ← c.inverse_at-in-loop-e.ensures.at, ← c.get-j.ensures)
    (simp (ne_eqb _ _ c.if-j-e.true)))

pub loop-e-preserved : goal.loop-e-preserved
loop-e-preserved c = goes_on c.loop-e.invariant c.loop-e-test.true
    (rw (← c.inverse_at.ensures.at, ← c.get-i.ensures, ← c.inverse_at-in-loop-e.ensures.at, ← c.get-j.ensures)
    (simp (eq-eqb _ _ c.if-j-e.false)))

pub returns : goal.returns
returns c = ends c.loop-e.invariant c.loop-e-test.false
