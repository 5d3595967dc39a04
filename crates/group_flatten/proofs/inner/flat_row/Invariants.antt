-- The places left to read give what the whole row gives.
use Prim.Native.Nat.{◌-◌, ◌≤◌}
use lib.ListN.{length}
use mathlib.Core.Path.{◌≡◌}
use Rattle.group_handles.specs.Handles.{handles}
use Rattle.group_digits.specs.Digits.{step_in}
use Rattle.group_flatten.specs.Flat.{row_by}
use Rattle.group_flatten.proofs.inner.flat_row.Given as goal

abbrev pub invariant-loop-x : goal.invariant-loop-x
invariant-loop-x l = (length l.t ≡ length l.initial.t) × (l.x ≤ l.n) × (row_by (l.n - l.x) (step_in l.from (handles l.g)) l.n l.room l.e.0 l.x l.count l.t ≡ row_by l.n (step_in l.from (handles l.g)) l.n l.room l.e.0 0 l.first l.initial.t)
