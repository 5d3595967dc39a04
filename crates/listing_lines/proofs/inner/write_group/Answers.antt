-- Five pieces in a row.
use Rattle.listing_lines.proofs.Laws.{group_pieces, ends_2, ends_3, ends_4, ends_5, whole}
use Rattle.listing_lines.proofs.inner.write_group.Goals as goal

pub write_spaced-b-requires : goal.write_spaced-b-requires
write_spaced-b-requires c = ends_2 (group_pieces c.args.t.now c.args.n c.args.count) c.requires c.write_word-a.ensures

pub write_spaced-c-requires : goal.write_spaced-c-requires
write_spaced-c-requires c = ends_3 (group_pieces c.args.t.now c.args.n c.args.count) c.requires c.write_word-a.ensures c.write_spaced-b.ensures

pub put_byte-d-requires : goal.put_byte-d-requires
put_byte-d-requires c = ends_4 (group_pieces c.args.t.now c.args.n c.args.count) c.requires c.write_word-a.ensures c.write_spaced-b.ensures c.write_spaced-c.ensures

pub write_lines-requires : goal.write_lines-requires
write_lines-requires c = ends_5 (group_pieces c.args.t.now c.args.n c.args.count) c.requires c.write_word-a.ensures c.write_spaced-b.ensures c.write_spaced-c.ensures c.put_byte-d.ensures

pub returns : goal.returns
returns c = whole (group_pieces c.args.t.now c.args.n c.args.count) c.requires c.write_word-a.ensures c.write_spaced-b.ensures c.write_spaced-c.ensures c.put_byte-d.ensures c.write_lines.ensures
