-- The invariant: the places before this chunk are right.
use Rattle.lists_group.specs.Each.{inverse_at}
use Rattle.lists.specs.Worked.{AllRight}
use mathlib.Core.Path.{◌≡◌}
use lib.ListN.{length}
use Prim.Native.Nat.{◌-◌, ◌≤◌}
use Rattle.lists_group.proofs.inner.chunks.inverses_in_chunks.Given as goal

abbrev pub invariant-loop-at : goal.invariant-loop-at
invariant-loop-at l = AllRight l.at (inverse_at l.table l.g l.a) l.results × ((l.at ≤ length l.a) × (length l.results ≡ length l.initial.results))

abbrev pub decreases-loop-at : goal.decreases-loop-at
decreases-loop-at l = length l.a - l.at
