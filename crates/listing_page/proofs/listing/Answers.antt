-- The text is made in a buffer that it fits, and copied where the caller's is long enough.
use native.Mathlib.Omega.{arith}
use mathlib.Core.Path.{sym}
use lib.Seq.{length-take-le}
use Rattle.listing_page.proofs.Whole.{used_within, used_narrow, copy_ends, page_short, page_whole}
use Rattle.listing_page.proofs.listing.Goals as goal

pub returns-then-out-used : goal.returns-then-out-used
returns-then-out-used c = page_short c.args.input.now c.write_listing-used.ensures c.write_listing-used.auto.out _ c.if-out-used.true

pub slice_bounds-page-end : goal.slice_bounds-page-end
slice_bounds-page-end c = used_within c.args.input.now c.write_listing-used.ensures c.write_listing-used.auto.out

pub slice_bounds-write_word-end : goal.slice_bounds-write_word-end
slice_bounds-write_word-end c = sym (length-take-le _ c.write_listing-used.new.out (used_within c.args.input.now c.write_listing-used.ensures c.write_listing-used.auto.out))

pub write_word-requires : goal.write_word-requires
write_word-requires c = copy_ends c.args.input.now c.write_listing-used.ensures c.write_listing-used.auto.out

pub overflow_cast-result : goal.overflow_cast-result
overflow_cast-result c = omega (arith, used_narrow c.args.input.now c.write_listing-used.ensures c.write_listing-used.auto.out)

pub returns : goal.returns
returns c = page_whole c.args.input.now c.write_listing-used.ensures c.write_listing-used.auto.out _ c.if-out-used.false c.write_word.ensures
