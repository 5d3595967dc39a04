use Rattle.egg.proofs.Refusing.{handed_on}
use mathlib.Core.Path.{sym, ◌∙◌}
use Rattle.egg.proofs.Scans.{scanning, stops, goes_on, ends}
use Rattle.factor_relations.specs.Relations.{pairs_row}
use Rattle.factor_relations.proofs.Relations.{pair_relation}
use Rattle.factor_relations.proofs.inner.pairs_row.Goals as goal

pub loop-k-init : goal.loop-k-init
unfolding pairs_row
loop-k-init c = scanning

pub returns-in_err-relation_at : goal.returns-in_err-relation_at
returns-in_err-relation_at c = let a = c.args in handed_on c.from_residual.ensures ∙ stops c.loop-k.invariant c.loop-k-test.true (sym (c.relation_at.ensures ∙ pair_relation a.s.now a.n a.count a.e.0 c.loop-k.k _ c.pair_code-pair.ensures) ∙ c.in_err-relation_at.was)

pub loop-k-preserved : goal.loop-k-preserved
loop-k-preserved c = let a = c.args in goes_on c.loop-k.invariant c.loop-k-test.true (sym (c.relation_at.ensures ∙ pair_relation a.s.now a.n a.count a.e.0 c.loop-k.k _ c.pair_code-pair.ensures) ∙ c.in_ok-relation_at.was)

pub returns : goal.returns
returns c = ends c.loop-k.invariant c.loop-k-test.false
