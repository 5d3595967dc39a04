-- What is left to walk from here leads where the whole word leads: each turn takes one letter off.
use mathlib.Core.Path.{◌≡◌}
use lib.ListN.{drop}
use Rattle.image_cells.specs.Cells.{halves}
use Rattle.image_walk.specs.Walked.{follow_rows}
use Rattle.image_walk.proofs.inner.follow.Given as goal

abbrev pub invariant-loop-g : goal.invariant-loop-g
invariant-loop-g l = follow_rows (halves l.rows) l.n l.count l.x (drop l.g-index l.word) ≡ follow_rows (halves l.rows) l.n l.count l.initial.x l.word
