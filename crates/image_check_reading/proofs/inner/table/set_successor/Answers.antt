-- The two stores are `set_step`'s; what was read before them tells whether the place was new.
use Rattle.image_cells.specs.Cells.{cells}
use Rattle.build_reading.proofs.Laws.{step_stored}
use Rattle.image_check_reading.proofs.inner.table.set_successor.Goals as goal

pub returns : goal.returns
returns c = let a = c.args in
    step_stored (cells a.t.now) a.n a.e a.g a.r c.successor_at-at.ensures.at c.predecessor_at-back.ensures.at c.get-old.ensures c.put.ensures c.put-2.ensures
