-- The rows left give what the whole reading gives; there are never more elements than the product has, so that each row is of one.
use Prim.Native.Nat.{◌-◌, ◌≤◌}
use lib.ListN.{length}
use mathlib.Core.Path.{◌≡◌}
use Rattle.group_handles.specs.Handles.{handles, elements_of}
use Rattle.group_digits.specs.Digits.{step_in}
use Rattle.group_flatten.specs.Flat.{rows_by}
use Rattle.group_flatten.proofs.inner.flat_rows.Given as goal

abbrev pub invariant-loop-e : goal.invariant-loop-e
invariant-loop-e l = (length l.t ≡ length l.initial.t) × (l.e ≤ l.room) × (l.count ≤ elements_of (handles l.g)) × (rows_by (l.room - l.e) (step_in l.from (handles l.g)) l.n l.room l.e l.count l.t ≡ rows_by l.room (step_in l.from (handles l.g)) l.n l.room 0 1 l.initial.t)
