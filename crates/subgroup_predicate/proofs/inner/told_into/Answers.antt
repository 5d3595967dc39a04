-- One law for each answer.
use mathlib.Core.Path.{sym, ◌∙◌}
use Rattle.group_handles.specs.Handles.{handles, elements_of}
use Rattle.subgroup_build.proofs.Admits.{count_is}
use Rattle.subgroup_predicate.proofs.Told.{told_short, told_few}
use Rattle.subgroup_predicate.proofs.inner.told_into.Goals as goal

pub returns-then-not-maps_right : goal.returns-then-not-maps_right
returns-then-not-maps_right c = told_short c.args.from.now c.args.over c.args.members.now c.args.table.now c.args.start c.args.work.now c.args.inn.now c.args.outw.now c.args.room (count_is (elements_of (handles c.args.over)) c.elements_of-m.ensures c.requires.1) (sym c.maps_right.ensures ∙ c.if-not-maps_right.true)

pub returns-then-members-m : goal.returns-then-members-m
returns-then-members-m c = told_few c.args.from.now c.args.over c.args.members.now c.args.table.now c.args.start c.args.work.now c.args.inn.now c.args.outw.now c.args.room (count_is (elements_of (handles c.args.over)) c.elements_of-m.ensures c.requires.1) (sym c.maps_right.ensures ∙ c.if-not-maps_right.false) c.if-members-m.true

pub told_at-requires : goal.told_at-requires
told_at-requires c = (c.requires, (rw (← count_is (elements_of (handles c.args.over)) c.elements_of-m.ensures c.requires.1) c.if-members-m.false, rw (← count_is (elements_of (handles c.args.over)) c.elements_of-m.ensures c.requires.1) (sym c.maps_right.ensures ∙ c.if-not-maps_right.false)))

pub returns : goal.returns
returns c = c.told_at.ensures
