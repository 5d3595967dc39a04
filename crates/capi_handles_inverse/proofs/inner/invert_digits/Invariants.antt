-- One pass, as `find` of capi_handles_step: the digits are gathered while each inverse is in range.
use Prim.Native.Nat.{◌≤◌}
use lib.ListN.{length}
use Rattle.group_handles.specs.Handles.{handles}
use Rattle.capi_handles.specs.Product.{product_of}
use Rattle.capi_handles.proofs.Passing.{Passing}
use Rattle.capi_handles_inverse.proofs.Inverting.{Inverting}
use Rattle.capi_handles_inverse.proofs.inner.invert_digits.Given as goal

abbrev pub invariant-loop-f : goal.invariant-loop-f
invariant-loop-f l = (l.f ≤ l.c) × (Passing (length l.table) (handles (product_of l.l l.count)) l.f l.elements × Inverting l.table (handles (product_of l.l l.count)) l.initial.x l.f l.elements l.right l.sum l.x)
