-- One law for each answer; both stretches stand in their buffers by `build_back`.
use Rattle.factor.proofs.Composing.{listed_small, composed_generators, composed_short, composed_unlisted, composed_built}
use Rattle.build_lending.proofs.Lending.{lent_table_lem, lent_enough}
use borrow.Author.Tests.{leb-true}
use mathlib.Core.Path.{refl, sym, ◌∙◌}
use lib.ListN.{length}
use lib.Seq.{length-take-le}
use borrow.Author.Rules.{rules}
use Rattle.factor.proofs.from_composed.Goals as goal

pub returns-then-n-gt8 : goal.returns-then-n-gt8
returns-then-n-gt8 c = composed_generators c.args.table.now c.args.start c.args.work.now c.args.rows.now _ _ c.if-n-gt8.true refl

pub returns-then-not-lent_right : goal.returns-then-not-lent_right
returns-then-not-lent_right c = composed_short c.args.table.now c.args.start c.args.work.now c.args.rows.now _ _ c.if-n-gt8.false (sym c.lent_right.ensures ∙ c.if-not-lent_right.true) refl

pub overflow_mul-room : goal.overflow_mul-room
overflow_mul-room c = record { fits = listed_small (search rules) (search rules) }

pub returns-then-rows-room : goal.returns-then-rows-room
returns-then-rows-room c = composed_unlisted c.args.table.now c.args.start c.args.work.now c.args.rows.now _ _ c.if-n-gt8.false (sym c.lent_right.ensures ∙ c.if-not-lent_right.false) c.if-rows-room.true refl

pub stretch_end-end-requires : goal.stretch_end-end-requires
stretch_end-end-requires c = lent_table_lem _ _ _ _ _ (sym c.lent_right.ensures ∙ c.if-not-lent_right.false)

pub slice_bounds-compose_in-end-2 : goal.slice_bounds-compose_in-end-2
slice_bounds-compose_in-end-2 c = rw c.work_need-need.ensures (leb-true _ _ (lent_enough (length c.args.table.now) _ (length c.args.work.now) _ _ (sym c.lent_right.ensures ∙ c.if-not-lent_right.false)))

pub slice_bounds-compose_in-end-3 : goal.slice_bounds-compose_in-end-3
slice_bounds-compose_in-end-3 c = sym (length-take-le _ c.args.work.now (rw c.work_need-need.ensures (leb-true _ _ (lent_enough (length c.args.table.now) _ (length c.args.work.now) _ _ (sym c.lent_right.ensures ∙ c.if-not-lent_right.false)))))

pub returns : goal.returns
returns c = composed_built c.args.table.now c.args.start c.args.work.now c.args.rows.now _ _ c.if-n-gt8.false (sym c.lent_right.ensures ∙ c.if-not-lent_right.false) c.if-rows-room.false c.stretch_end-end.ensures c.work_need-need.ensures c.made.ensures c.compose_in-count.ensures
