-- One law of `adds` for each answer, by the tests that lead to it.
use Rattle.image_cells.specs.Cells.{cells}
use native.Mathlib.Omega.{arith}
use Rattle.build_reading.proofs.Laws.{adds_full, adds_long, adds_new, parts}
use Rattle.image_check_reading.proofs.inner.table.add_successor.Goals as goal

pub returns-then-count-room : goal.returns-then-count-room
returns-then-count-room c = let a = c.args in
    parts (adds_full (cells a.t.now) a.n a.room a.count a.e a.g c.if-count-room.true)

pub returns-then-len-ge4096 : goal.returns-then-len-ge4096
returns-then-len-ge4096 c = let a = c.args in
    parts (adds_long (cells a.t.now) a.n a.room a.count a.e a.g c.if-count-room.false (omega arith))

pub returns : goal.returns
returns c = let a = c.args in
    parts (adds_new (cells a.t.now) a.n a.room a.count a.e a.g c.if-count-room.false c.word_length-len.ensures c.if-len-ge4096.false c.record_word.ensures c.set_successor.ensures.1)
