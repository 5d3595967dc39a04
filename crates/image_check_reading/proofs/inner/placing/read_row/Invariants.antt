-- The places left of the row give what the whole row gives: each turn reads one.
use Rattle.image_cells.specs.Cells.{cells, halves}
use Prim.Native.Nat.{◌-◌, ◌≤◌}
use mathlib.Core.Path.{◌≡◌}
use lib.ListN.{length}
use Rattle.build_reading.specs.Reading.{read_row, composed_at}
use Rattle.image_check_reading.proofs.inner.placing.read_row.Given as goal

abbrev pub invariant-loop-g : goal.invariant-loop-g
invariant-loop-g l = (length l.t ≡ length l.initial.t) × (l.g ≤ l.n) × (read_row (l.n - l.g) (composed_at (halves l.rows) l.n) l.n l.room l.e.0 l.g l.count (cells l.t) ≡ read_row l.n (composed_at (halves l.rows) l.n) l.n l.room l.e.0 0 l.first (cells l.initial.t))
