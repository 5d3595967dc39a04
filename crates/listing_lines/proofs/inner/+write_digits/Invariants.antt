-- The measure is the number of digits left.
use Rattle.listing_lines.proofs.inner.+write_digits.Given as goal

abbrev pub decreases-write_digits : goal.decreases-write_digits
decreases-write_digits l = l.k
