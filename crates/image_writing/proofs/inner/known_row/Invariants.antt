-- A loop over a scan: each turn goes on or stops at a refusal.
use Rattle.egg.proofs.Scans.{Scanning}
use Rattle.egg.specs.Factor.{read_step}
use Rattle.image_writing.specs.Written.{step_read, known_row}
use Rattle.image_writing.proofs.inner.known_row.Given as goal

abbrev pub invariant-loop-g : goal.invariant-loop-g
invariant-loop-g l = Scanning l.n (λ i. step_read (read_step l.s l.n l.count l.e.0 i)) l.g (known_row l.s l.n l.count l.e.0)
