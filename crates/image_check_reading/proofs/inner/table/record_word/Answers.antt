-- The three stores one after the other are `set_word`'s.
use Rattle.image_cells.specs.Cells.{cells}
use Rattle.build_reading.proofs.Laws.{word_stored}
use Rattle.image_check_reading.proofs.inner.table.record_word.Goals as goal

pub returns : goal.returns
returns c = let a = c.args in
    word_stored (cells a.t.now) a.n a.e a.g a.new a.len c.start.ensures.at c.put.ensures c.put-2.ensures c.put-3.ensures
