-- The invariant: whatever writes the lines from e on has written them all.
use Prim.Native.Nat.{◌≤◌, ◌-◌}
use Rattle.listing_lines.specs.Text.{lines_text}
use Rattle.listing_lines.proofs.Laws.{Rest}
use Rattle.listing_lines.proofs.inner.write_lines.Given as goal

abbrev pub invariant-loop-e : goal.invariant-loop-e
invariant-loop-e l = (l.e ≤ l.count) × Rest l.initial.out l.at (lines_text l.count l.t l.n 0) l.out l.next (lines_text (l.count - l.e) l.t l.n l.e)
