-- The loop is a scan of the rows; the verdict of a row is `columns_row`'s and then `spelled_row`'s.
use Rattle.egg.specs.Scan.{and_then}
use Rattle.build_checks_group.specs.Lefts.{columns_row, spelled_row, spelled}
use Rattle.egg.proofs.Scans.{Scanning}
use Rattle.build_checks_group.proofs.inner.spelled.Given as goal

abbrev pub invariant-loop-e : goal.invariant-loop-e
invariant-loop-e l = Scanning l.count (λ k. and_then (columns_row l.t l.n k) (spelled_row l.t l.n k)) l.e (spelled l.t l.n l.count)
