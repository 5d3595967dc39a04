-- The loop is a scan of the rows, whose verdicts are `wrong_row`'s.
use Rattle.image_cells.specs.Cells.{cells}
use Rattle.build_checks.specs.Checks.{wrong_row, wrong}
use Rattle.egg.proofs.Scans.{Scanning}
use Rattle.image_check.proofs.inner.checking.wrong.Given as goal

abbrev pub invariant-loop-e : goal.invariant-loop-e
invariant-loop-e l = Scanning l.count (λ k. wrong_row (cells l.t) l.n k) l.e (wrong (cells l.t) l.n l.count)
