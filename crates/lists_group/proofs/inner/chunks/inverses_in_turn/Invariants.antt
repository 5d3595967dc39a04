-- The invariant is `Together`: at each place, what is left to gather gives what the whole does. The lists keep their lengths.
use Rattle.lists_group.proofs.Turns.{Together}
use Rattle.group_digits.specs.Digits.{Inverse}
use Rattle.group_handles.specs.Handles.{handles}
use mathlib.Core.Path.{◌≡◌}
use mathlib.Core.List.{[]}
use lib.ListN.{length}
use Rattle.lists_group.proofs.inner.chunks.inverses_in_turn.Given as goal

abbrev pub invariant-loop-f : goal.invariant-loop-f
invariant-loop-f l = Together Inverse l.table (handles l.g) l.k l.initial.xs [] l.f l.stride l.xs [] l.sums × ((length l.xs ≡ length l.initial.xs) × (length l.sums ≡ length l.initial.sums))
