-- One law for each way that the tests lead. The orders that were read are the front of their buffer.
use native.Mathlib.Omega.{arith}
use mathlib.Core.Path.{sym}
use lib.Seq.{length-take-le}
use Rattle.listing_lines.proofs.Bounds.{refused_ends}
use Rattle.listing_page.proofs.Pages.{listing_empty, listing_generators, listing_bytes, listing_orders}
use Rattle.factor_relations.proofs.Orders.{pairs_few}
use Rattle.listing_page.proofs.inner.write_listing.Goals as goal

pub write_refused-requires : goal.write_refused-requires
write_refused-requires c = refused_ends 2

pub returns-then-input-eq0 : goal.returns-then-input-eq0
returns-then-input-eq0 c = rw (listing_empty c.args.input.now c.if-input-eq0.true) c.write_refused.ensures

pub write_refused-requires-then-n-gt8 : goal.write_refused-requires-then-n-gt8
write_refused-requires-then-n-gt8 c = refused_ends 1

pub returns-then-n-gt8 : goal.returns-then-n-gt8
returns-then-n-gt8 c = rw (listing_generators c.args.input.now c.if-input-eq0.false c.if-n-gt8.true) c.write_refused-then-n-gt8.ensures

pub write_refused-requires-then-input-k : goal.write_refused-requires-then-input-k
write_refused-requires-then-input-k c = refused_ends 2

pub returns-then-input-k : goal.returns-then-input-k
returns-then-input-k c = rw (listing_bytes c.args.input.now c.if-input-eq0.false c.if-n-gt8.false c.pair_count-k.ensures (λ q. omega (arith, q, c.if-input-k.true))) c.write_refused-then-input-k.ensures

pub read_orders-requires : goal.read_orders-requires
read_orders-requires c = (omega (arith, c.pair_count-k.ensures, pairs_few c.if-n-gt8.false), c.requires.2)

pub slice_bounds-write_page-end : goal.slice_bounds-write_page-end
slice_bounds-write_page-end c = omega (arith, c.pair_count-k.ensures, pairs_few c.if-n-gt8.false, c.read_orders.auto.orders, c.requires.2)

pub slice_bounds-write_page-end-2 : goal.slice_bounds-write_page-end-2
slice_bounds-write_page-end-2 c = sym (length-take-le _ c.read_orders.new.orders (omega (arith, c.pair_count-k.ensures, pairs_few c.if-n-gt8.false, c.read_orders.auto.orders, c.requires.2)))

pub returns : goal.returns
returns c = rw (listing_orders c.args.input.now c.if-input-eq0.false c.if-n-gt8.false c.pair_count-k.ensures c.if-input-k.false c.read_orders.ensures) c.write_page.ensures
