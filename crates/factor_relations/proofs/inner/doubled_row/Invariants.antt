-- A loop over a scan: each turn goes on or stops at a refusal.
use Rattle.egg.proofs.Scans.{Scanning}
use Rattle.factor_relations.specs.Relations.{relation_at, doubled_row}
use Rattle.factor_relations.proofs.inner.doubled_row.Given as goal

abbrev pub invariant-loop-g : goal.invariant-loop-g
invariant-loop-g l = Scanning l.n (λ i. relation_at l.s l.n l.count l.e.0 i i 1) l.g (doubled_row l.s l.n l.count l.e.0)
