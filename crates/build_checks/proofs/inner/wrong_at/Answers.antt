-- Each way through the tests decides the picks of `wrong_at`.
use borrow.Author.Tests.{eq-eqb, ne_eqb}
use Rattle.build_checks.proofs.inner.wrong_at.Goals as goal

pub returns-then-r-e : goal.returns-then-r-e
returns-then-r-e c = rw (← c.step-r.ensures) (simp (eq-eqb _ _ c.if-r-e.true))

pub returns-then-e-eq0 : goal.returns-then-e-eq0
returns-then-e-eq0 c = rw (← c.step-r.ensures) (simp (ne_eqb _ _ c.if-r-e.false, eq-eqb _ _ c.if-e-eq0.true))

pub returns-then-r-step : goal.returns-then-r-step
returns-then-r-step c = rw (← c.step-r.ensures, ← c.step.ensures)
    (simp (ne_eqb _ _ c.if-r-e.false, ne_eqb _ _ c.if-e-eq0.false, eq-eqb _ _ c.if-r-step.true))

pub returns : goal.returns
returns c = rw (← c.step-r.ensures, ← c.step.ensures)
    (simp (ne_eqb _ _ c.if-r-e.false, ne_eqb _ _ c.if-e-eq0.false, ne_eqb _ _ c.if-r-step.false))
