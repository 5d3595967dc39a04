-- The loop is a scan of the row; a turn's test is the cell's, by what `cell` ensures.
use Rattle.image_cells.specs.Cells.{cells}
use Rattle.build_checks.specs.Checks.{missing_at, missing_row}
use Rattle.egg.proofs.Scans.{Scanning}
use Rattle.image_check.proofs.inner.checking.missing_row.Given as goal

abbrev pub invariant-loop-g : goal.invariant-loop-g
invariant-loop-g l = Scanning l.n (λ k. missing_at (cells l.t) l.n l.shift l.e.0 k) l.g (missing_row (cells l.t) l.n l.shift l.e.0)
