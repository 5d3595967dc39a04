-- The loop is a scan of the elements; a turn's test is that of the two inverses read.
use Rattle.image_cells.specs.Cells.{cells}
use Rattle.build_checks_inverses.specs.Inverses.{inverse_at, inverses_right}
use Rattle.egg.proofs.Scans.{Scanning}
use Rattle.image_check.proofs.inner.checking.inverses_right.Given as goal

abbrev pub invariant-loop-e : goal.invariant-loop-e
invariant-loop-e l = Scanning l.count (λ k. inverse_at (cells l.t) l.n k) l.e (inverses_right (cells l.t) l.n l.count)
