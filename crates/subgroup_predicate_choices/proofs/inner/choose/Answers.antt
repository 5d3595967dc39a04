-- One law for each way that a turn goes.
use mathlib.Core.Path.{refl, sym, ◌∙◌}
use native.Mathlib.Omega.{arith}
use lib.ListN.{length, get_or, set}
use lib.Seq.{length-take-le}
use Rattle.group_handles.specs.Handles.{handles}
use Rattle.group_digits.specs.Digits.{composes}
use Rattle.subgroup_predicate_choices.proofs.Choices.{set_long, eight_as, next_eight, turn_known, turn_ninth, turn_next}
use Rattle.subgroup_predicate_choices.proofs.inner.choose.Goals as goal

pub returns-then-not-is_new : goal.returns-then-not-is_new
returns-then-not-is_new c = (turn_known (length c.args.t.now) c.args.room (length c.args.inn.now) (length c.args.outw.now) (composes c.args.from.now (handles c.args.over)) (λ y. get_or c.args.members.now y 0) c.args.x.0 c.args.p.chosen c.args.p.generators c.requires.1.0.long c.requires.1.0.few c.args.p.made c.args.t.now c.args.w.now c.args.inn.now c.args.outw.now c.requires.1.1.is c.is_new.ensures c.if-not-is_new.true, c.requires.1.0)

pub returns-then-full : goal.returns-then-full
returns-then-full c = (c.ninth.ensures.0 ∙ turn_ninth (length c.args.t.now) c.args.room (length c.args.inn.now) (length c.args.outw.now) (composes c.args.from.now (handles c.args.over)) (λ y. get_or c.args.members.now y 0) c.args.x.0 c.args.p.chosen c.args.p.generators c.requires.1.0.long c.requires.1.0.few c.args.p.made c.args.t.now c.args.w.now c.args.inn.now c.args.outw.now c.requires.1.1.is c.is_new.ensures c.if-not-is_new.false c.if-full.true, eight_as c.ninth.ensures.1.0 c.ninth.ensures.1.1 c.requires.1.0)

pub slice_bounds-chosen-end : goal.slice_bounds-chosen-end
slice_bounds-chosen-end c = (let a = set_long c.args.p.chosen c.args.p.generators c.args.x.0 c.requires.1.0.long in let b = c.if-full.false in omega arith)

pub slice_bounds-generated_in-end : goal.slice_bounds-generated_in-end
slice_bounds-generated_in-end c = sym (length-take-le _ (set c.args.p.chosen c.args.p.generators c.args.x.0) (let a = set_long c.args.p.chosen c.args.p.generators c.args.x.0 c.requires.1.0.long in let b = c.if-full.false in omega arith))

pub returns : goal.returns
returns c = (turn_next (length c.args.t.now) c.args.room (length c.args.inn.now) (length c.args.outw.now) (composes c.args.from.now (handles c.args.over)) (λ y. get_or c.args.members.now y 0) c.args.x.0 c.args.p.chosen c.args.p.generators c.requires.1.0.long c.requires.1.0.few c.args.p.made c.args.t.now c.args.w.now c.args.inn.now c.args.outw.now c.requires.1.1.is c.is_new.ensures c.if-not-is_new.false c.if-full.false c.generated_in-made.ensures, next_eight c.args.p.chosen c.args.p.generators c.args.x.0 c.requires.1.0.long c.if-full.false refl refl)
