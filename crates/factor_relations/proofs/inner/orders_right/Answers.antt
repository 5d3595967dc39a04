use Rattle.egg.specs.Pairs.{order_at}
use Rattle.factor_relations.proofs.Orders.{orders_length, orders_begin, order_low, order_high, order_fine}
use Rattle.egg.proofs.Scans.{scan_end}
use mathlib.Core.Path.{sym, ◌∙◌}
use borrow.Author.Rules.{rules}
use Rattle.factor_relations.proofs.inner.orders_right.Goals as goal

pub returns-then-orders-count : goal.returns-then-orders-count
returns-then-orders-count c = orders_length c.args.orders.now _ c.pair_count-count.ensures c.if-orders-count.true

pub loop-k-init : goal.loop-k-init
loop-k-init c = (search rules, orders_begin c.args.orders.now _ c.pair_count-count.ensures c.if-orders-count.false)

pub returns-then-m-lt2 : goal.returns-then-m-lt2
returns-then-m-lt2 c = order_low c.args.orders.now _ _ c.get-m.ensures c.loop-k-test.true c.if-m-lt2.true ∙ c.loop-k.invariant.1

pub returns-then-m-gt32767 : goal.returns-then-m-gt32767
returns-then-m-gt32767 c = order_high c.args.orders.now _ _ c.get-m.ensures c.loop-k-test.true c.if-m-lt2.false c.if-m-gt32767.true ∙ c.loop-k.invariant.1

pub loop-k-preserved : goal.loop-k-preserved
loop-k-preserved c = (search rules, sym (order_fine c.args.orders.now _ _ c.get-m.ensures c.loop-k-test.true c.if-m-lt2.false c.if-m-gt32767.false) ∙ c.loop-k.invariant.1)

pub returns : goal.returns
returns c = sym (scan_end _ (λ i. order_at c.args.orders.now i) _ c.loop-k-test.false) ∙ c.loop-k.invariant.1
