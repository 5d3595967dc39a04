-- The digits so far, and those of what is left, are the digits of the whole.
use Prim.Native.Nat.{◌<◌}
use Rattle.group_handles.specs.Handles.{handles}
use Rattle.group_digits.proofs.Splits.{Splitting}
use Rattle.group_digits.proofs.inner.split_in.Given as goal

abbrev pub invariant-loop-f : goal.invariant-loop-f
invariant-loop-f l = Splitting (handles l.g) l.initial.rest l.initial.out l.out l.f l.rest × (l.rest < 4294967296)
