-- A loop over a scan: each turn goes on or stops at a refusal.
use Rattle.egg.proofs.Scans.{Scanning}
use Rattle.factor_relations.specs.Relations.{relations_row, relations}
use Rattle.factor_relations.proofs.inner.relations.Given as goal

abbrev pub invariant-loop-e : goal.invariant-loop-e
invariant-loop-e l = Scanning l.count (λ i. relations_row l.s l.n l.count l.orders i) l.e (relations l.s l.n l.count l.orders)
