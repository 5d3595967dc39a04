-- The loop is a scan of the row; a turn's test is the cell's, by what `cell` ensures.
use Rattle.build_checks.specs.Checks.{missing_at, missing_row}
use Rattle.egg.proofs.Scans.{Scanning}
use Rattle.build_checks.proofs.inner.missing_row.Given as goal

abbrev pub invariant-loop-g : goal.invariant-loop-g
invariant-loop-g l = Scanning l.n (λ k. missing_at l.t l.n l.shift l.e.0 k) l.g (missing_row l.t l.n l.shift l.e.0)
