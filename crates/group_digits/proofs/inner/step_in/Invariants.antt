-- The step in what is left of the product is the whole step; every sum is within the product.
use Rattle.group_digits.proofs.Walks.{Stepping}
use Rattle.group_handles.specs.Handles.{handles}
use Rattle.group_digits.proofs.inner.step_in.Given as goal

abbrev pub invariant-loop-f : goal.invariant-loop-f
invariant-loop-f l = Stepping l.table (handles l.g) l.initial.rest l.initial.left l.f l.stride l.low l.rest l.left
