use borrow.Author.Tests.{eq-eqb, ne_eqb}
use Rattle.enumeration_rows.proofs.inner.link_at.Goals as goal

pub returns-then-tail-eq0 : goal.returns-then-tail-eq0
returns-then-tail-eq0 c = simp (eq-eqb _ _ c.if-tail-eq0.true)

pub returns-else-tail-eq0 : goal.returns-else-tail-eq0
returns-else-tail-eq0 c = simp (ne_eqb _ _ c.if-tail-eq0.false)
