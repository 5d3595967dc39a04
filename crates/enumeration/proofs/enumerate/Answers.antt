-- One law for each answer; both stretches stand in their buffers by `build_back`.
use Rattle.enumeration.proofs.Calls.{lent_limits, enumerates_generators, enumerates_orders, enumerates_short, enumerates_built}
use Rattle.build_lending.proofs.Lending.{lent_table_lem, lent_enough}
use borrow.Author.Tests.{leb-true}
use Rattle.egg.proofs.Refusing.{handed_on}
use mathlib.Core.Path.{sym, ◌∙◌}
use lib.ListN.{length}
use lib.Seq.{length-take-le}
use Rattle.enumeration.proofs.enumerate.Goals as goal

pub returns-then-n-gt8 : goal.returns-then-n-gt8
returns-then-n-gt8 c = enumerates_generators c.args.table.now c.args.start c.args.work.now c.args.orders.now _ _ c.if-n-gt8.true

pub returns-in_err-orders_right : goal.returns-in_err-orders_right
returns-in_err-orders_right c = rw (handed_on c.from_residual.ensures) (enumerates_orders c.args.table.now c.args.start c.args.work.now c.args.orders.now _ _ c.if-n-gt8.false c.orders_right.ensures c.in_err-orders_right.was)

pub returns-then-not-lent_right : goal.returns-then-not-lent_right
returns-then-not-lent_right c = enumerates_short c.args.table.now c.args.start c.args.work.now c.args.orders.now _ _ c.if-n-gt8.false c.orders_right.ensures c.in_ok-orders_right.was (sym c.lent_right.ensures ∙ c.if-not-lent_right.true)

pub stretch_end-end-requires : goal.stretch_end-end-requires
stretch_end-end-requires c = lent_table_lem _ _ _ _ _ (sym c.lent_right.ensures ∙ c.if-not-lent_right.false)

pub slice_bounds-enumerate_in-end-2 : goal.slice_bounds-enumerate_in-end-2
slice_bounds-enumerate_in-end-2 c = rw c.work_need-need.ensures (leb-true _ _ (lent_enough (length c.args.table.now) _ (length c.args.work.now) _ _ (sym c.lent_right.ensures ∙ c.if-not-lent_right.false)))

pub slice_bounds-enumerate_in-end-3 : goal.slice_bounds-enumerate_in-end-3
slice_bounds-enumerate_in-end-3 c = sym (length-take-le _ c.args.work.now (rw c.work_need-need.ensures (leb-true _ _ (lent_enough (length c.args.table.now) _ (length c.args.work.now) _ _ (sym c.lent_right.ensures ∙ c.if-not-lent_right.false)))))

pub enumerate_in-count-requires : goal.enumerate_in-count-requires
enumerate_in-count-requires c = lent_limits c.args.table.now c.args.start c.args.work.now c.args.orders.now _ _ c.if-n-gt8.false (sym c.orders_right.ensures ∙ c.in_ok-orders_right.was) (sym c.lent_right.ensures ∙ c.if-not-lent_right.false) c.stretch_end-end.ensures c.work_need-need.ensures (rw c.work_need-need.ensures (leb-true _ _ (lent_enough (length c.args.table.now) _ (length c.args.work.now) _ _ (sym c.lent_right.ensures ∙ c.if-not-lent_right.false))))

pub returns : goal.returns
returns c = enumerates_built c.args.table.now c.args.start c.args.work.now c.args.orders.now _ _ c.if-n-gt8.false c.orders_right.ensures c.in_ok-orders_right.was (sym c.lent_right.ensures ∙ c.if-not-lent_right.false) c.stretch_end-end.ensures c.work_need-need.ensures (rw c.work_need-need.ensures (leb-true _ _ (lent_enough (length c.args.table.now) _ (length c.args.work.now) _ _ (sym c.lent_right.ensures ∙ c.if-not-lent_right.false)))) c.made.ensures c.enumerate_in-count.ensures
