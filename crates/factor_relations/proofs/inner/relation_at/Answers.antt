-- One law for each answer, from where turning ended.
use Rattle.egg.proofs.Refusing.{handed_on}
use mathlib.Core.Path.{◌∙◌}
use Rattle.factor_relations.proofs.Relations.{returns_refused, returns_here, returns_elsewhere}
use Rattle.factor_relations.proofs.inner.relation_at.Goals as goal

pub returns-in_err-x : goal.returns-in_err-x
returns-in_err-x c = handed_on c.from_residual.ensures ∙ let a = c.args in returns_refused a.e.0 a.a.0 a.b.0 c.turned.ensures c.in_err-x.was

pub returns-then-x-e : goal.returns-then-x-e
returns-then-x-e c = let a = c.args in returns_here a.e.0 a.a.0 a.b.0 c.turned.ensures c.in_ok-x.was c.if-x-e.true

pub returns-else-x-e : goal.returns-else-x-e
returns-else-x-e c = let a = c.args in returns_elsewhere a.e.0 a.a.0 a.b.0 c.turned.ensures c.in_ok-x.was c.if-x-e.false
