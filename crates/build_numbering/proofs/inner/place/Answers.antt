-- One law for each way that a place ends.
use Rattle.egg.proofs.Refusing.{handed_on}
use native.Mathlib.Omega.{arith}
use Rattle.build_reading.proofs.Readings.{added_within}
use Rattle.build_numbering.proofs.PlaceLaws.{map_known, map_refused, map_new}
use Rattle.build_numbering.proofs.inner.place.Goals as goal

pub returns-then-v : goal.returns-then-v
returns-then-v c = let a = c.args in
    rw c.set_successor.ensures.1 (map_known a.t.now a.inn.now a.outw.now a.n a.room a.count a.e.0 a.g.0 a.x.0 c.get-v.ensures c.if-v.true)

pub overflow_add-result : goal.overflow_add-result
overflow_add-result c = let a = c.args in
    let h = added_within a.t.now a.n a.room a.count _ _ c.add_successor.ensures.0 c.in_ok-add_successor.was in omega arith

pub returns-in_err-add_successor : goal.returns-in_err-add_successor
returns-in_err-add_successor c = let a = c.args in
    rw (handed_on c.from_residual.ensures) (map_refused a.t.now a.inn.now a.outw.now a.n a.room a.count a.e.0 a.g.0 a.x.0 c.get-v.ensures c.if-v.false c.add_successor.ensures.0 c.add_successor.ensures.1 c.in_err-add_successor.was)

pub returns : goal.returns
returns c = let a = c.args in
    rw (c.put-2.ensures, c.put.ensures) (map_new a.t.now a.inn.now a.outw.now a.n a.room a.count a.e.0 a.g.0 a.x.0 c.get-v.ensures c.if-v.false c.add_successor.ensures.0 c.add_successor.ensures.1 c.in_ok-add_successor.was)
