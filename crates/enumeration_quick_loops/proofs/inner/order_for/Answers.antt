use Rattle.enumeration_quick_loops.proofs.LoopLaws.{order_low, order_high}
use Rattle.enumeration_quick_loops.proofs.inner.order_for.Goals as goal

pub returns-then-g-h : goal.returns-then-g-h
returns-then-g-h c = order_low (c.args.orders.now) (c.args.g.0) (c.args.h.0) (c.if-g-h.true) (c.get.ensures) (c.pair_count.ensures)

pub returns-else-g-h : goal.returns-else-g-h
returns-else-g-h c = order_high (c.args.orders.now) (c.args.g.0) (c.args.h.0) (c.if-g-h.false) (c.get-else-g-h.ensures) (c.pair_count-else-g-h.ensures)
