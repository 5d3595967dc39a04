-- A scan, place by place.
use Rattle.group_handles.specs.Handles.{handles, sizes}
use Rattle.egg.proofs.Scans.{Scanning}
use Rattle.group_digits.specs.Splits.{digit_right, digits_right}
use Rattle.group_digits.proofs.inner.digits_right.Given as goal

abbrev pub invariant-loop-f : goal.invariant-loop-f
invariant-loop-f l = Scanning l.c (digit_right (sizes (handles l.g)) l.digits) l.f (digits_right (sizes (handles l.g)) l.digits)
