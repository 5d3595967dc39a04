-- The table is zeroed, read into, and finished; a count below the room is 16 in between.
use lib.ListN.{length}
use Rattle.image_cells.specs.Cells.{halves}
use Rattle.image_reading.proofs.ReadLaws.{image_in_lem}
use Rattle.image_reading.proofs.inner.read_in.Goals as goal

pub returns : goal.returns
returns c = image_in_lem (length c.args.t.now) c.args.w.now (halves c.args.rows.now) c.args.n c.args.room c.clear.ensures c.read_rows-read.ensures c.reached_all-all.ensures c.finish.ensures
