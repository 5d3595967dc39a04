-- One pass: what was seen so far and what is left give the whole.
use Prim.Native.Nat.{◌≤◌}
use lib.ListN.{length}
use Rattle.group_handles.specs.Handles.{handles}
use Rattle.group_handles.proofs.Sums.{Looking}
use Rattle.capi_handles.specs.Product.{product_at}
use Rattle.capi_handles.proofs.inner.look_at.Given as goal

abbrev pub invariant-loop-f : goal.invariant-loop-f
invariant-loop-f l = (l.f ≤ l.c) × Looking (length l.from) (handles (product_at l.l l.at l.count)) l.f l.fit l.elements l.generators
