-- The least common multiple so far, and that of what is left, is that of the whole.
use Rattle.group_handles.specs.Handles.{handles}
use Rattle.group_periods.proofs.Periods.{Multiple}
use Rattle.group_periods.proofs.inner.periods.Given as goal

abbrev pub invariant-loop-f : goal.invariant-loop-f
invariant-loop-f l = Multiple l.table (handles l.g) l.initial.rest l.f l.m l.rest
