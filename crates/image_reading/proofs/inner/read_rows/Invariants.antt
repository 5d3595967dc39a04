-- The rows left give what the whole reading gives: each turn reads one.
use Rattle.image_cells.specs.Cells.{halves}
use Prim.Native.Nat.{◌-◌, ◌≤◌}
use mathlib.Core.Path.{◌≡◌}
use lib.ListN.{length}
use Rattle.build_reading.specs.Reading.{read_from, composed_at}
use Rattle.image_reading.proofs.inner.read_rows.Given as goal

abbrev pub invariant-loop-e : goal.invariant-loop-e
invariant-loop-e l = (length l.t ≡ length l.initial.t) × (l.e ≤ l.room) × (read_from (l.room - l.e) (composed_at (halves l.rows) l.n) l.n l.room l.e l.count l.t ≡ read_from l.room (composed_at (halves l.rows) l.n) l.n l.room 0 1 l.initial.t)
