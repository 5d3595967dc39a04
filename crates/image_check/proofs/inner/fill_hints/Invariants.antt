-- The invariant: the elements that were passed have their hints; the table before `at` is kept.
use mathlib.Core.Path.{◌≡◌}
use lib.ListN.{length, take, drop}
use Rattle.image_cells.specs.Cells.{cells}
use Rattle.build_checks_inverses.specs.Hints.{Hints}
use Rattle.image_check.proofs.inner.fill_hints.Given as goal

abbrev pub invariant-loop-e : goal.invariant-loop-e
invariant-loop-e l = (length l.b ≡ length l.initial.b) × (take l.at l.b ≡ take l.at l.initial.b) × Hints (cells (take l.at l.initial.b)) (cells (drop l.at l.b)) l.n l.e
