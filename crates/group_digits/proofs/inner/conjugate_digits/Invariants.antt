-- What is left to gather gives what the whole does; every sum is within the product.
use Rattle.group_handles.specs.Handles.{handles}
use Rattle.group_digits.specs.Digits.{Conjugate, digit_of}
use Rattle.group_digits.proofs.Walks.{Gathering}
use Rattle.group_digits.proofs.inner.conjugate_digits.Given as goal

abbrev pub invariant-loop-f : goal.invariant-loop-f
invariant-loop-f l = Gathering (digit_of Conjugate l.table) (handles l.g) l.initial.x l.initial.y l.f l.stride l.sum l.x l.y
