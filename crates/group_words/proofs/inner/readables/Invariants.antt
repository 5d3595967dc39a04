-- Whether what is left can be read is whether all can.
use Rattle.group_handles.specs.Handles.{handles}
use Rattle.group_words.proofs.Spelling.{Looking}
use Rattle.group_words.proofs.inner.readables.Given as goal

abbrev pub invariant-loop-f : goal.invariant-loop-f
invariant-loop-f l = Looking l.table (handles l.g) l.initial.rest l.f l.rest
