-- One pass: what was passed and what is left give the whole; a handle that does not fit ends it.
use Prim.Native.Nat.{◌≤◌}
use lib.ListN.{length}
use Rattle.group_handles.specs.Handles.{handles}
use Rattle.capi_handles.specs.Product.{product_of}
use Rattle.capi_handles.proofs.Passing.{Passing}
use Rattle.capi_handles_step.proofs.Choosing.{Choosing}
use Rattle.capi_handles_step.proofs.inner.find.Given as goal

abbrev pub invariant-loop-f : goal.invariant-loop-f
invariant-loop-f l = (l.f ≤ l.c) × (Passing (length l.table) (handles (product_of l.l l.count)) l.f l.elements × Choosing (handles (product_of l.l l.count)) l.x l.f l.generators l.at l.stride l.before)
