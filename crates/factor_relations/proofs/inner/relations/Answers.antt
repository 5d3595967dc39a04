use Rattle.egg.proofs.Refusing.{handed_on}
use mathlib.Core.Path.{sym, ◌∙◌}
use Rattle.egg.proofs.Scans.{scanning, goes_on, ends, stops}
use Rattle.factor_relations.specs.Relations.{relations}
use Rattle.factor_relations.proofs.inner.relations.Goals as goal

pub loop-e-init : goal.loop-e-init
unfolding relations
loop-e-init c = scanning

pub returns-in_err-relations_row : goal.returns-in_err-relations_row
returns-in_err-relations_row c = handed_on c.from_residual.ensures ∙ stops c.loop-e.invariant c.loop-e-test.true (sym c.relations_row.ensures ∙ c.in_err-relations_row.was)

pub loop-e-preserved : goal.loop-e-preserved
loop-e-preserved c = goes_on c.loop-e.invariant c.loop-e-test.true (sym c.relations_row.ensures ∙ c.in_ok-relations_row.was)

pub returns : goal.returns
returns c = ends c.loop-e.invariant c.loop-e-test.false
