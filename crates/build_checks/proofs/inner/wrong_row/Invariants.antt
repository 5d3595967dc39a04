-- The loop is a scan of the row, whose verdicts are `wrong_at`'s.
use Rattle.build_checks.specs.Checks.{wrong_at, wrong_row}
use Rattle.egg.proofs.Scans.{Scanning}
use Rattle.build_checks.proofs.inner.wrong_row.Given as goal

abbrev pub invariant-loop-g : goal.invariant-loop-g
invariant-loop-g l = Scanning l.n (λ k. wrong_at l.t l.n l.e.0 k) l.g (wrong_row l.t l.n l.e.0)
