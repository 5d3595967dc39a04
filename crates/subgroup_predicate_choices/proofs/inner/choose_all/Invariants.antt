-- The invariant: the turns that are left give what all of them give.
use Prim.Native.Nat.{◌-◌, ◌≤◌}
use mathlib.Core.Path.{◌≡◌}
use lib.ListN.{length, get_or, take}
use Rattle.build_lending.specs.Finish.{built}
use Rattle.group_handles.specs.Handles.{handles}
use Rattle.group_digits.specs.Digits.{composes}
use Rattle.build_numbering.specs.Build.{renumbering}
use Rattle.subgroup_predicate_choices.specs.Choices.{ChosenOfEight, chooses, again_in}
use Rattle.subgroup_predicate_choices.proofs.inner.choose_all.Given as goal

abbrev pub invariant-loop-x : goal.invariant-loop-x
invariant-loop-x l = (length l.t ≡ length l.initial.t) × (length l.w ≡ length l.initial.w) × (length l.inn ≡ length l.initial.inn) × (length l.outw ≡ length l.initial.outw) × (l.x ≤ l.m) × ChosenOfEight l.q × (chooses (l.m - l.x) (again_in (length l.initial.t) (composes l.from (handles l.over)) l.room (length l.initial.inn) (length l.initial.outw)) (λ y. get_or l.members y 0) l.x (take l.q.generators l.q.chosen) (renumbering (built l.q.made l.t l.w) l.inn l.outw) ≡ chooses l.m (again_in (length l.initial.t) (composes l.from (handles l.over)) l.room (length l.initial.inn) (length l.initial.outw)) (λ y. get_or l.members y 0) 0 (take l.initial.q.generators l.initial.q.chosen) (renumbering (built l.initial.q.made l.initial.t l.initial.w) l.initial.inn l.initial.outw))
