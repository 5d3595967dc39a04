-- 15, then 4; then the digits so far and those left join to the whole.
use Rattle.group_handles.specs.Handles.{handles}
use Rattle.group_digits.proofs.Splits.{Joining}
use Rattle.group_digits.proofs.inner.join_in.Given as goal

abbrev pub invariant-loop-f : goal.invariant-loop-f
invariant-loop-f l = Joining (handles l.g) l.digits l.f l.stride l.sum
