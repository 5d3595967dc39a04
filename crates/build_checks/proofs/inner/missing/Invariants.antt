-- The loop is a scan of the rows, whose verdicts are `missing_row`'s.
use Rattle.build_checks.specs.Checks.{missing_row, missing}
use Rattle.egg.proofs.Scans.{Scanning}
use Rattle.build_checks.proofs.inner.missing.Given as goal

abbrev pub invariant-loop-e : goal.invariant-loop-e
invariant-loop-e l = Scanning l.count (λ k. missing_row l.t l.n l.shift k) l.e (missing l.t l.n l.count l.shift)
