-- The test decides the pick of `inverse_by`.
use mathlib.Core.Path.{◌∙◌}
use borrow.Author.Tests.{eq-eqb, ne_eqb}
use Rattle.image_check.proofs.inner.checking.inverse_by.Goals as goal

pub returns-then-h-eq0 : goal.returns-then-h-eq0
returns-then-h-eq0 c = c.invert.ensures ∙ rw (← c.get-h.ensures) (simp (eq-eqb _ _ c.if-h-eq0.true))

pub returns : goal.returns
returns c = c.element.ensures
    ∙ rw (c.cell.ensures, c.get-x.ensures, c.inverse_at.ensures.at, ← c.get-h.ensures)
    (simp (ne_eqb _ _ c.if-h-eq0.false))
