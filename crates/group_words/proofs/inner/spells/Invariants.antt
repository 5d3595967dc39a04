-- Writing what is left gives what writing the whole gives.
use Prim.Native.Nat.{◌≤◌}
use Rattle.group_handles.specs.Handles.{handles}
use Rattle.group_words.proofs.Spelling.{Spelling}
use Rattle.group_words.proofs.inner.spells.Given as goal

abbrev pub invariant-loop-f : goal.invariant-loop-f
invariant-loop-f l = (l.f ≤ l.c) × Spelling l.table (handles l.g) l.initial.rest l.initial.out l.out l.f l.rest l.start l.offset
