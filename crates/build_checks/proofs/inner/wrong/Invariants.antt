-- The loop is a scan of the rows, whose verdicts are `wrong_row`'s.
use Rattle.build_checks.specs.Checks.{wrong_row, wrong}
use Rattle.egg.proofs.Scans.{Scanning}
use Rattle.build_checks.proofs.inner.wrong.Given as goal

abbrev pub invariant-loop-e : goal.invariant-loop-e
invariant-loop-e l = Scanning l.count (λ k. wrong_row l.t l.n k) l.e (wrong l.t l.n l.count)
