-- Three pieces in a row.
use Rattle.listing_lines.proofs.Laws.{refused_pieces, ends_2, ends_3, joined}
use Rattle.listing_lines.proofs.inner.write_refused.Goals as goal

pub write_spaced-b-requires : goal.write_spaced-b-requires
write_spaced-b-requires c = ends_2 (refused_pieces c.args.number) c.requires c.write_word-a.ensures

pub put_byte-requires : goal.put_byte-requires
put_byte-requires c = ends_3 (refused_pieces c.args.number) c.requires c.write_word-a.ensures c.write_spaced-b.ensures

pub returns : goal.returns
returns c = joined c.write_word-a.ensures (joined c.write_spaced-b.ensures c.put_byte.ensures)
