-- A space, then the digits.
use Rattle.listing_lines.proofs.Laws.{joined}
use Rattle.listing_lines.proofs.inner.write_spaced.Goals as goal

pub returns : goal.returns
returns c = joined c.put_byte-next.ensures c.write_decimal.ensures
