use Prim.Native.Nat.{◌-◌}
use mathlib.Core.Path.{refl, ◌∙◌}
use native.Mathlib.Omega.{arith}
use borrow.Author.Rules.{rules}
use lib.ListN.{length, get_or, take}
use Rattle.build_lending.specs.Finish.{built}
use Rattle.group_handles.specs.Handles.{handles}
use Rattle.group_digits.specs.Digits.{composes}
use Rattle.build_numbering.specs.Build.{renumbering}
use Rattle.subgroup_predicate_choices.specs.Choices.{again_in}
use Rattle.subgroup_predicate_choices.proofs.Choices.{turn_on, turns_begin, turns_end, turns_stop, turn_lengths, last_built}
use Rattle.subgroup_predicate_choices.proofs.inner.choose_all.Goals as goal

pub overflow_cast-m : goal.overflow_cast-m
overflow_cast-m c = let k = c.requires.0.1 in omega arith

pub loop-x-init : goal.loop-x-init
loop-x-init c = (refl, refl, refl, refl, search rules, c.requires.1, turns_begin (again_in (length c.args.t.now) (composes c.args.from.now (handles c.args.over)) c.args.room (length c.args.inn.now) (length c.args.outw.now)) (λ y. get_or c.args.members.now y 0) (length c.args.inn.now) (take c.args.p.generators c.args.p.chosen) (renumbering (built c.args.p.made c.args.t.now c.args.w.now) c.args.inn.now c.args.outw.now))

pub shape_of-t-in_default : goal.shape_of-t-in_default
shape_of-t-in_default c = c.loop-x.invariant.0

pub shape_of-w-in_default : goal.shape_of-w-in_default
shape_of-w-in_default c = c.loop-x.invariant.1

pub shape_of-inn-in_default : goal.shape_of-inn-in_default
shape_of-inn-in_default c = c.loop-x.invariant.2

pub shape_of-outw-in_default : goal.shape_of-outw-in_default
shape_of-outw-in_default c = c.loop-x.invariant.3

pub returns-in_default : goal.returns-in_default
returns-in_default c = (turns_stop (again_in (length c.args.t.now) (composes c.args.from.now (handles c.args.over)) c.args.room (length c.args.inn.now) (length c.args.outw.now)) (λ y. get_or c.args.members.now y 0) (length c.args.inn.now - c.loop-x.x) c.loop-x.x (take c.loop-x.q.generators c.loop-x.q.chosen) c.loop-x.q.made c.loop-x.t c.loop-x.w c.loop-x.inn c.loop-x.outw c.in_default.is c.loop-x.invariant.6, c.loop-x.invariant.5)

pub choose-q-requires : goal.choose-q-requires
choose-q-requires c = (c.requires.0.0, (c.loop-x.invariant.5, last_built c.in-Ok.is))

pub loop-x-preserved : goal.loop-x-preserved
loop-x-preserved c = (c.choose-q.auto.t ∙ c.loop-x.invariant.0, c.choose-q.auto.w ∙ c.loop-x.invariant.1, c.choose-q.auto.inn ∙ c.loop-x.invariant.2, c.choose-q.auto.outw ∙ c.loop-x.invariant.3, (let h = c.loop-x-test.true in omega arith), c.choose-q.ensures.1, turn_on (again_in (length c.args.t.now) (composes c.args.from.now (handles c.args.over)) c.args.room (length c.args.inn.now) (length c.args.outw.now)) (λ y. get_or c.args.members.now y 0) (length c.args.inn.now) c.loop-x.x (take c.loop-x.q.generators c.loop-x.q.chosen) (renumbering (built c.loop-x.q.made c.loop-x.t c.loop-x.w) c.loop-x.inn c.loop-x.outw) c.loop-x-test.true c.loop-x.invariant.6 (turn_lengths (composes c.args.from.now (handles c.args.over)) c.args.room (λ y. get_or c.args.members.now y 0) c.loop-x.x (take c.loop-x.q.generators c.loop-x.q.chosen) (renumbering (built c.loop-x.q.made c.loop-x.t c.loop-x.w) c.loop-x.inn c.loop-x.outw) c.loop-x.invariant.0 c.loop-x.invariant.2 c.loop-x.invariant.3 c.choose-q.ensures.0))

pub shape_of-t : goal.shape_of-t
shape_of-t c = c.loop-x.invariant.0

pub shape_of-w : goal.shape_of-w
shape_of-w c = c.loop-x.invariant.1

pub shape_of-inn : goal.shape_of-inn
shape_of-inn c = c.loop-x.invariant.2

pub shape_of-outw : goal.shape_of-outw
shape_of-outw c = c.loop-x.invariant.3

pub returns : goal.returns
returns c = (turns_end (again_in (length c.args.t.now) (composes c.args.from.now (handles c.args.over)) c.args.room (length c.args.inn.now) (length c.args.outw.now)) (λ y. get_or c.args.members.now y 0) (length c.args.inn.now) c.loop-x.x c.loop-x-test.false c.loop-x.invariant.6, c.loop-x.invariant.5)
