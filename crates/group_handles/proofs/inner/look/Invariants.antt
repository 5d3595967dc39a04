-- One pass: what was seen so far and what is left give the whole.
use lib.ListN.{length}
use Prim.Native.Nat.{◌≤◌}
use Rattle.group_handles.specs.Handles.{handles}
use Rattle.group_handles.proofs.Sums.{Looking}
use Rattle.group_handles.proofs.inner.look.Given as goal

abbrev pub invariant-loop-f : goal.invariant-loop-f
invariant-loop-f l = (l.f ≤ l.c) × Looking (length l.table) (handles l.g) l.f l.fit l.elements l.generators
