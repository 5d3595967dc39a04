-- The invariant: whatever writes the successors from g on has written them all.
use Prim.Native.Nat.{◌≤◌, ◌-◌}
use Rattle.listing_lines.specs.Text.{steps_text}
use Rattle.listing_lines.proofs.Laws.{Rest}
use Rattle.listing_lines.proofs.inner.write_steps.Given as goal

abbrev pub invariant-loop-g : goal.invariant-loop-g
invariant-loop-g l = (l.g ≤ l.n) × Rest l.initial.out l.at (steps_text l.n l.t l.n l.e.0 0) l.out l.next (steps_text (l.n - l.g) l.t l.n l.e.0 l.g)
