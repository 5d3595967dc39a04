use Rattle.egg.proofs.Refusing.{handed_on}
use Rattle.egg.proofs.Scans.{scanning, goes_on, ends, stops}
use mathlib.Core.Path.{sym, ◌∙◌}
use Rattle.factor_relations.specs.Relations.{doubled_row}
use Rattle.factor_relations.proofs.inner.doubled_row.Goals as goal

pub loop-g-init : goal.loop-g-init
unfolding doubled_row
loop-g-init c = scanning

pub returns-in_err-relation_at : goal.returns-in_err-relation_at
returns-in_err-relation_at c = handed_on c.from_residual.ensures ∙ stops c.loop-g.invariant c.loop-g-test.true (sym c.relation_at.ensures ∙ c.in_err-relation_at.was)

pub loop-g-preserved : goal.loop-g-preserved
loop-g-preserved c = goes_on c.loop-g.invariant c.loop-g-test.true (sym c.relation_at.ensures ∙ c.in_ok-relation_at.was)

pub returns : goal.returns
returns c = ends c.loop-g.invariant c.loop-g-test.false
