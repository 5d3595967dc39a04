-- What is left to gather gives what the whole does; every sum is within the product.
use Prim.Native.Nat.{ℕ}
use Rattle.group_handles.specs.Handles.{handles}
use Rattle.group_digits.specs.Digits.{Inverse, digit_of}
use Rattle.group_digits.proofs.Walks.{Gathering}
use Rattle.group_digits.proofs.inner.inverse_digits.Given as goal

abbrev pub invariant-loop-f : goal.invariant-loop-f
invariant-loop-f l = (y : ℕ) × Gathering (digit_of Inverse l.table) (handles l.g) l.initial.x 0 l.f l.stride l.sum l.x y
