-- Each way through the tests decides the picks of `spelled_row`.
use borrow.Author.Tests.{eq-eqb, ne_eqb}
use Rattle.build_checks_group.specs.Lefts.{spelled_row}
use Rattle.build_checks_group.proofs.inner.spelled_row.Goals as goal

pub returns-then-len-ne0 : goal.returns-then-len-ne0
unfolding spelled_row
returns-then-len-ne0 c = rw (← c.word_length-len.ensures) (simp (eq-eqb _ _ c.if-e-eq0.true, ne_eqb _ _ c.if-len-ne0.true))

pub returns-then-e-eq0 : goal.returns-then-e-eq0
unfolding spelled_row
returns-then-e-eq0 c = rw (← c.word_length-len.ensures) (simp (eq-eqb _ _ c.if-e-eq0.true, eq-eqb _ _ c.if-len-ne0.false))

pub returns-then-step_last-e : goal.returns-then-step_last-e
unfolding spelled_row
returns-then-step_last-e c = rw (← c.parent.ensures, ← c.step_last.ensures) (simp (ne_eqb _ _ c.if-e-eq0.false, ne_eqb _ _ c.if-step_last-e.true))

pub returns-then-len-before : goal.returns-then-len-before
unfolding spelled_row
returns-then-len-before c = rw (← c.parent.ensures, ← c.step_last.ensures, ← c.word_length-len.ensures, ← c.word_length-before.ensures)
    (simp (ne_eqb _ _ c.if-e-eq0.false, eq-eqb _ _ c.if-step_last-e.false, ne_eqb _ _ c.if-len-before.true))

pub returns : goal.returns
unfolding spelled_row
returns c = rw (← c.parent.ensures, ← c.step_last.ensures, ← c.word_length-len.ensures, ← c.word_length-before.ensures)
    (simp (ne_eqb _ _ c.if-e-eq0.false, eq-eqb _ _ c.if-step_last-e.false, eq-eqb _ _ c.if-len-before.false))
