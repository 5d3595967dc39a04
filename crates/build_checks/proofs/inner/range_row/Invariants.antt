-- The loop is a scan of the row's steps and steps back; a turn's test is the cell's.
use Prim.Native.Nat.{◌*◌}
use Rattle.build_checks.specs.Checks.{range_at, range_row}
use Rattle.egg.proofs.Scans.{Scanning}
use Rattle.build_checks.proofs.inner.range_row.Given as goal

abbrev pub invariant-loop-k : goal.invariant-loop-k
invariant-loop-k l = Scanning (2 * l.n) (λ j. range_at l.t l.n l.count l.e.0 j) l.k (range_row l.t l.n l.count l.e.0)
