-- The places left of the row give what the whole row gives: each turn reads one.
use Prim.Native.Nat.{◌-◌, ◌≤◌}
use mathlib.Core.Path.{◌≡◌}
use lib.ListN.{length}
use Rattle.build_reading.specs.Reading.{read_row, composed_at}
use Rattle.factor_composed_rows.proofs.inner.read_row.Given as goal

abbrev pub invariant-loop-g : goal.invariant-loop-g
invariant-loop-g l = (length l.t ≡ length l.initial.t) × (l.g ≤ l.n) × (read_row (l.n - l.g) (composed_at l.rows l.n) l.n l.room l.e.0 l.g l.count l.t ≡ read_row l.n (composed_at l.rows l.n) l.n l.room l.e.0 0 l.first l.initial.t)
