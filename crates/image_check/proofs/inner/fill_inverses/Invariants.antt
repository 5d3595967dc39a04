-- The invariant is `Filling` of the table before `at`; the hints from there on are kept. A turn is one step of `fill_inverses`.
use mathlib.Core.Path.{◌≡◌}
use lib.ListN.{length, take, drop}
use Rattle.image_cells.specs.Cells.{cells}
use Rattle.build_checks_inverses.proofs.Hints.{Filling}
use Rattle.image_check.proofs.inner.fill_inverses.Given as goal

abbrev pub invariant-loop-e : goal.invariant-loop-e
invariant-loop-e l = (length l.b ≡ length l.initial.b) × Filling (cells (take l.at l.initial.b)) l.n l.count l.e (cells (take l.at l.b)) × (drop l.at l.b ≡ drop l.at l.initial.b)
