use Rattle.egg.proofs.Laws.{got_from}
use Rattle.enumeration_quick_loops.proofs.LoopLaws.{order_small, loop_same, loop_short, loop_open, loop_other, loop_found}
use Rattle.enumeration_quick_loops.proofs.inner.loop_by.Goals as goal

pub returns-then-h-g : goal.returns-then-h-g
returns-then-h-g c = loop_same (c.args.t.now) (c.args.orders.now) (c.args.n) (c.args.e.0) (c.args.g.0) (c.args.h.0) (c.if-h-g.true)

pub returns-then-length-order : goal.returns-then-length-order
returns-then-length-order c = loop_short (c.args.t.now) (c.args.orders.now) (c.args.n) (c.args.e.0) (c.args.g.0) (c.args.h.0) (c.if-h-g.false) (c.order_for-order.ensures) (c.requires.1.1) (c.if-length-order.true)

pub letters-requires : goal.letters-requires
letters-requires c = order_small (c.args.orders.now) (c.requires.0) (c.args.g.0) (c.args.h.0) (c.order_for-order.ensures)

pub returns-then-end-ne0 : goal.returns-then-end-ne0
returns-then-end-ne0 c = loop_open (c.args.t.now) (c.args.orders.now) (c.args.n) (c.args.e.0) (c.args.g.0) (c.args.h.0) (c.if-h-g.false) (c.order_for-order.ensures) (c.requires.1.1) (c.if-length-order.false) (c.letters.ensures) (c.loop_end-end.ensures.0) (c.if-end-ne0.true)

pub returns-then-get-ne0 : goal.returns-then-get-ne0
returns-then-get-ne0 c = loop_other (c.args.t.now) (c.args.orders.now) (c.args.n) (c.args.e.0) (c.args.g.0) (c.args.h.0) (c.if-h-g.false) (c.order_for-order.ensures) (c.requires.1.1) (c.if-length-order.false) (c.letters.ensures) (c.loop_end-end.ensures.0) (c.if-end-ne0.false)
    (got_from (c.args.t.now) (c.args.g.0) (c.get.ensures) (c.start.ensures.at)) (c.if-get-ne0.true)

pub returns : goal.returns
returns c = loop_found (c.args.t.now) (c.args.orders.now) (c.args.n) (c.args.e.0) (c.args.g.0) (c.args.h.0) (c.if-h-g.false) (c.order_for-order.ensures) (c.requires.1.1) (c.if-length-order.false) (c.letters.ensures) (c.loop_end-end.ensures.0) (c.if-end-ne0.false)
    (got_from (c.args.t.now) (c.args.g.0) (c.get.ensures) (c.start.ensures.at)) (c.if-get-ne0.false)
