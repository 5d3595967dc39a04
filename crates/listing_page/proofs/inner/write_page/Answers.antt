-- One law for each way that the tests lead.
use Rattle.listing_lines.proofs.Bounds.{refused_ends}
use Rattle.listing_page.proofs.Pages.{page_refused, page_many, page_made}
use Rattle.listing_page.proofs.inner.write_page.Goals as goal

pub write_refused-requires : goal.write_refused-requires
write_refused-requires c = refused_ends _

pub returns-in-Err : goal.returns-in-Err
returns-in-Err c = rw (page_refused c.args.orders.now c.args.n c.orders_right.ensures c.in-Err.is, ← c.number.ensures) c.write_refused.ensures

pub write_refused-requires-then-n-gt4 : goal.write_refused-requires-then-n-gt4
write_refused-requires-then-n-gt4 c = refused_ends 4

pub returns-then-n-gt4 : goal.returns-then-n-gt4
returns-then-n-gt4 c = rw (page_many c.args.orders.now c.args.n c.orders_right.ensures c.in_default.is c.if-n-gt4.true) c.write_refused-then-n-gt4.ensures

pub returns : goal.returns
returns c = rw (page_made c.args.orders.now c.args.n c.orders_right.ensures c.in_default.is c.if-n-gt4.false c.requires.0 c.requires.1 c.enumerate-made.ensures) c.write_answer.ensures
