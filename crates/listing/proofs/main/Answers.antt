-- The buffer keeps its length, and every listing fits it; so the used part of it is as long as what was used.
use mathlib.Core.Path.{sym}
use lib.Seq.{length-take-le}
use Rattle.listing_page.proofs.Fits.{count_fits}
use Rattle.listing.proofs.main.Goals as goal

pub slice_bounds-text-end : goal.slice_bounds-text-end
slice_bounds-text-end c = count_fits _ _ c.listing-answer.ensures.0 c.in-Ok.is c.listing-answer.auto.out

pub slice_bounds-write_all-end : goal.slice_bounds-write_all-end
slice_bounds-write_all-end c = sym (length-take-le _ c.listing-answer.new.out (count_fits _ _ c.listing-answer.ensures.0 c.in-Ok.is c.listing-answer.auto.out))
