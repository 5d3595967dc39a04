-- The loop is a scan of the rows, whose verdicts are `missing_row`'s.
use Rattle.image_cells.specs.Cells.{cells}
use Rattle.build_checks.specs.Checks.{missing_row, missing}
use Rattle.egg.proofs.Scans.{Scanning}
use Rattle.image_check.proofs.inner.checking.missing.Given as goal

abbrev pub invariant-loop-e : goal.invariant-loop-e
invariant-loop-e l = Scanning l.count (λ k. missing_row (cells l.t) l.n l.shift k) l.e (missing (cells l.t) l.n l.count l.shift)
