-- The generators left from here give what the whole gives; the table before `at` is kept.
use Prim.Native.Nat.{◌-◌}
use mathlib.Core.Path.{◌≡◌}
use lib.ListN.{length, take, drop}
use Rattle.image_cells.specs.Cells.{cells}
use Rattle.build_checks_group.specs.Lefts.{lefts}
use Rattle.image_check.proofs.inner.check12.Given as goal

abbrev pub invariant-loop-s : goal.invariant-loop-s
invariant-loop-s l = (length l.b ≡ length l.initial.b) × (take l.at l.b ≡ take l.at l.initial.b) × (lefts (l.n - l.s) (cells (take l.at l.initial.b)) l.n l.count (cells (drop l.at l.b)) l.s ≡ lefts l.n (cells (take l.at l.initial.b)) l.n l.count (cells (drop l.at l.initial.b)) 0)
