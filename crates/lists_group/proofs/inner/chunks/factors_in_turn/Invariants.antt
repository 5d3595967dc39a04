-- The invariant is `Together`: at each place, what is left to gather gives what the whole does. The lists keep their lengths.
use Rattle.lists_group.proofs.Turns.{Together}
use Rattle.group_digits.specs.Digits.{Compose}
use Rattle.group_handles.specs.Handles.{handles}
use mathlib.Core.Path.{◌≡◌}
use lib.ListN.{length}
use Rattle.lists_group.proofs.inner.chunks.factors_in_turn.Given as goal

abbrev pub invariant-loop-f : goal.invariant-loop-f
invariant-loop-f l = Together Compose l.table (handles l.g) l.k l.initial.xs l.initial.ys l.f l.stride l.xs l.ys l.sums × (((length l.xs ≡ length l.initial.xs) × ((length l.ys ≡ length l.initial.ys) × (length l.sums ≡ length l.initial.sums))) × ((length l.dx ≡ 64) × ((length l.dy ≡ 64) × (length l.ds ≡ 64))))
