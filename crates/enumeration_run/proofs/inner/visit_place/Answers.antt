use Rattle.egg.proofs.Refusing.{handed_on}
use mathlib.Core.Path.{sym, ◌∙◌}
use native.Mathlib.Omega.{arith}
use Rattle.egg.proofs.Laws.{got}
use Rattle.enumeration_run.proofs.RunLaws.{adds_room, visit_known, visit_refused, visit_new}
use Rattle.enumeration_run.proofs.inner.visit_place.Goals as goal

pub returns-then-get-ne0 : goal.returns-then-get-ne0
returns-then-get-ne0 c = visit_known c.args.n c.args.orders.now c.args.room c.args.count c.args.e c.args.g c.args.t.now c.args.w.now (got c.args.t.now c.get.ensures c.successor_at.ensures.at) c.if-get-ne0.true

pub overflow_add-result : goal.overflow_add-result
overflow_add-result c = omega (arith, adds_room c.args.n c.args.orders.now c.args.room c.args.count c.args.e c.args.g c.args.t.now c.args.w.now (sym c.add_successor.ensures.0 ∙ c.in_ok-new.was))

pub returns-in_err-new : goal.returns-in_err-new
returns-in_err-new c = rw (handed_on c.from_residual.ensures) (visit_refused c.args.n c.args.orders.now c.args.room c.args.count c.args.e c.args.g c.args.t.now c.args.w.now (got c.args.t.now c.get.ensures c.successor_at.ensures.at) c.if-get-ne0.false c.add_successor.ensures.0 c.add_successor.ensures.1 c.in_err-new.was)

pub returns : goal.returns
returns c = visit_new c.args.n c.args.orders.now c.args.room c.args.count c.args.e c.args.g c.args.t.now c.args.w.now (got c.args.t.now c.get.ensures c.successor_at.ensures.at) c.if-get-ne0.false c.add_successor.ensures.0 c.add_successor.ensures.1 c.in_ok-new.was c.discover.ensures.0 c.discover.ensures.1
