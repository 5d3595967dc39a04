-- The elements left to fill from here leave what the whole leaves; the table before `at` is kept.
use Prim.Native.Nat.{◌-◌}
use mathlib.Core.Path.{◌≡◌}
use lib.ListN.{length, take, drop}
use Rattle.image_cells.specs.Cells.{cells}
use Rattle.build_checks_group.specs.Lefts.{fill_left}
use Rattle.image_check.proofs.inner.fill_left.Given as goal

abbrev pub invariant-loop-x : goal.invariant-loop-x
invariant-loop-x l = (length l.b ≡ length l.initial.b) × (take l.at l.b ≡ take l.at l.initial.b) × (fill_left (l.count - l.x) (cells (take l.at l.initial.b)) l.n l.s.0 (cells (drop l.at l.b)) l.x ≡ fill_left l.count (cells (take l.at l.initial.b)) l.n l.s.0 (cells (drop l.at l.initial.b)) 0)
