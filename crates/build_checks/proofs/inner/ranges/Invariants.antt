-- The loop is a scan of the rows; the verdict of a row is `range_row`'s and then that of `links`.
use Rattle.egg.specs.Scan.{and_then}
use Rattle.build_checks.specs.Checks.{range_row, links_of, ranges}
use Rattle.egg.proofs.Scans.{Scanning}
use Rattle.build_checks.proofs.inner.ranges.Given as goal

abbrev pub invariant-loop-e : goal.invariant-loop-e
invariant-loop-e l = Scanning l.count (λ k. and_then (range_row l.t l.n l.count k) (links_of l.t l.n k)) l.e (ranges l.t l.n l.count)
