-- Five pieces in a row.
use mathlib.Core.Path.{refl}
use Rattle.listing_lines.proofs.Laws.{line_pieces, ends_1, ends_2, ends_3, ends_4, ends_5, whole}
use Rattle.listing_lines.proofs.inner.write_line.Goals as goal

pub write_decimal-a-requires : goal.write_decimal-a-requires
write_decimal-a-requires c = ends_1 (line_pieces c.args.t.now c.args.n c.args.e.0 refl refl) c.requires

pub write_spaced-b-requires : goal.write_spaced-b-requires
write_spaced-b-requires c = ends_2 (line_pieces c.args.t.now c.args.n c.args.e.0 c.inverse.ensures refl) c.requires c.write_decimal-a.ensures

pub write_spaced-c-requires : goal.write_spaced-c-requires
write_spaced-c-requires c = ends_3 (line_pieces c.args.t.now c.args.n c.args.e.0 c.inverse.ensures c.word_length.ensures) c.requires c.write_decimal-a.ensures c.write_spaced-b.ensures

pub write_steps-d-requires : goal.write_steps-d-requires
write_steps-d-requires c = ends_4 (line_pieces c.args.t.now c.args.n c.args.e.0 c.inverse.ensures c.word_length.ensures) c.requires c.write_decimal-a.ensures c.write_spaced-b.ensures c.write_spaced-c.ensures

pub put_byte-requires : goal.put_byte-requires
put_byte-requires c = ends_5 (line_pieces c.args.t.now c.args.n c.args.e.0 c.inverse.ensures c.word_length.ensures) c.requires c.write_decimal-a.ensures c.write_spaced-b.ensures c.write_spaced-c.ensures c.write_steps-d.ensures

pub returns : goal.returns
returns c = whole (line_pieces c.args.t.now c.args.n c.args.e.0 c.inverse.ensures c.word_length.ensures) c.requires c.write_decimal-a.ensures c.write_spaced-b.ensures c.write_spaced-c.ensures c.write_steps-d.ensures c.put_byte.ensures
