use Rattle.group_handles.specs.Handles.{handles}
use Rattle.group_walk.proofs.Owners.{Owning}
use Rattle.group_walk.proofs.inner.find.Given as goal

abbrev pub invariant-loop-f : goal.invariant-loop-f
invariant-loop-f l = Owning (handles l.g) l.x l.f l.generators l.at l.before
