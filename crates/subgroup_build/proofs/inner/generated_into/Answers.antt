-- One law for each answer.
use mathlib.Core.Path.{sym, ◌∙◌}
use Rattle.group_handles.specs.Handles.{handles, elements_of}
use Rattle.subgroup_build.proofs.Admits.{count_is}
use Rattle.subgroup_build.proofs.Lendings.{generated_many, generated_short}
use Rattle.subgroup_build.proofs.inner.generated_into.Goals as goal

pub returns-then-k-gt8 : goal.returns-then-k-gt8
returns-then-k-gt8 c = generated_many c.args.from.now c.args.over c.args.gens.now c.args.table.now c.args.start c.args.work.now c.args.inn.now c.args.outw.now c.args.room c.if-k-gt8.true c.shown.ensures

pub returns-then-not-maps_right : goal.returns-then-not-maps_right
returns-then-not-maps_right c = generated_short c.args.from.now c.args.over c.args.gens.now c.args.table.now c.args.start c.args.work.now c.args.inn.now c.args.outw.now c.args.room c.if-k-gt8.false (count_is (elements_of (handles c.args.over)) c.elements_of-m.ensures c.requires.1) (sym c.maps_right.ensures ∙ c.if-not-maps_right.true)

pub generated_at-requires : goal.generated_at-requires
generated_at-requires c = (c.requires, (c.if-k-gt8.false, rw (← count_is (elements_of (handles c.args.over)) c.elements_of-m.ensures c.requires.1) (sym c.maps_right.ensures ∙ c.if-not-maps_right.false)))

pub returns : goal.returns
returns c = c.generated_at.ensures
