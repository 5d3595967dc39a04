use Prim.Native.Nat.{ℕ}
use Rattle.group_handles.specs.Handles.{handles}
use Rattle.group_walk.specs.Walked.{follows}
use Rattle.group_walk.proofs.Follows.{Held, Following}
use Rattle.group_walk.proofs.inner.follow.Given as goal

abbrev pub invariant-loop-i : goal.invariant-loop-i
invariant-loop-i l = (e : ℕ) → Held (handles l.g) e l.initial.digits → Following l.table (handles l.g) l.word l.i (follows l.table (handles l.g) e l.word) l.digits
