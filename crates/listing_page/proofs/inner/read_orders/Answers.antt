use mathlib.Core.Path.{sym, ◌∙◌}
use native.Mathlib.Omega.{arith}
use native.Mathlib.Nat.{sub-zero}
use borrow.Author.Rules.{rules}
use lib.ListN.{length-set}
use Rattle.listing_lines.proofs.Laws.{begin, stored, advance, finish}
use Rattle.listing_page.proofs.Orders.{orders_count, orders_ends, orders_next, orders_end, front}
use Rattle.listing_page.proofs.inner.read_orders.Goals as goal

pub loop-i-init : goal.loop-i-init
loop-i-init c = (search rules, c.requires.1, rw sub-zero (begin (orders_ends c.args.k c.args.input.now c.requires.0)))

pub order_at-requires : goal.order_at-requires
order_at-requires c = omega arith

pub bounds-orders-i : goal.bounds-orders-i
bounds-orders-i c = omega arith

pub loop-i-smaller : goal.loop-i-smaller
loop-i-smaller c = omega arith

pub loop-i-preserved : goal.loop-i-preserved
loop-i-preserved c = (omega arith, length-set c.loop-i.orders c.loop-i.i c.order_at.result ∙ c.loop-i.invariant.1, advance c.loop-i.invariant.2 (orders_next c.args.k c.args.input.now c.order_at.ensures c.loop-i-test.true) (stored c.loop-i.orders c.loop-i.i c.order_at.result))

pub shape_of-orders : goal.shape_of-orders
shape_of-orders c = c.loop-i.invariant.1 ∙ sym c.requires.1

pub returns : goal.returns
returns c = front (finish c.loop-i.invariant.2 (orders_end c.args.k c.args.input.now c.loop-i-test.false)) (orders_count c.args.k c.args.input.now 0) (omega arith)
