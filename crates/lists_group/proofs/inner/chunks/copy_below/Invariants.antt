-- The invariant is `Copying`: what has been passed is copied and below the limit.
use Rattle.lists_group.proofs.Passes.{Copying}
use Rattle.lists_group.proofs.inner.chunks.copy_below.Given as goal

abbrev pub invariant-loop-i : goal.invariant-loop-i
invariant-loop-i l = Copying l.limit l.from l.initial.to l.i l.to
