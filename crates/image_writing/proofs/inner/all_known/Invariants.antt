-- A loop over a scan: each turn goes on or stops at a refusal.
use Rattle.egg.proofs.Scans.{Scanning}
use Rattle.image_writing.specs.Written.{known_row, all_known}
use Rattle.image_writing.proofs.inner.all_known.Given as goal

abbrev pub invariant-loop-e : goal.invariant-loop-e
invariant-loop-e l = Scanning l.count (λ i. known_row l.s l.n l.count i) l.e (all_known l.s l.n l.count)
