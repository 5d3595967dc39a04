use borrow.Author.Tests.{eq-eqb, ne_eqb}
use Rattle.enumeration_rows.proofs.inner.generator.Goals as goal

pub returns-then-index-eq0 : goal.returns-then-index-eq0
returns-then-index-eq0 c = simp (eq-eqb _ _ c.if-index-eq0.true)

pub returns-else-index-eq0 : goal.returns-else-index-eq0
returns-else-index-eq0 c = simp (ne_eqb _ _ c.if-index-eq0.false)
