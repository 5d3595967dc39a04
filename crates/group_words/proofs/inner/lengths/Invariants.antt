-- The lengths so far and those left add up to the whole.
use Prim.Native.Nat.{◌≤◌}
use Rattle.group_handles.specs.Handles.{handles}
use Rattle.group_words.proofs.Spelling.{Measuring}
use Rattle.group_words.proofs.inner.lengths.Given as goal

abbrev pub invariant-loop-f : goal.invariant-loop-f
invariant-loop-f l = (l.f ≤ l.c) × Measuring l.table (handles l.g) l.initial.rest l.f l.sum l.rest
