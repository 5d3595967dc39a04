-- One law for each answer of a place; an element is added only within the room, so that the next count fits.
use Rattle.egg.proofs.Refusing.{handed_on}
use native.Mathlib.Omega.{arith}
use Rattle.build_reading.proofs.Readings.{added_within, place_beyond, place_known, place_refused, place_new}
use Rattle.build_reading.proofs.inner.place.Goals as goal

pub returns-then-count-v : goal.returns-then-count-v
returns-then-count-v c = let a = c.args in place_beyond a.t.now a.n a.room a.count a.e.0 a.g.0 a.v c.if-count-v.true

pub returns-then-v-count : goal.returns-then-v-count
returns-then-v-count c = let a = c.args in rw c.set_successor.ensures.1 (place_known a.t.now a.n a.room a.count a.e.0 a.g.0 a.v c.if-v-count.true)

pub overflow_add-result : goal.overflow_add-result
overflow_add-result c = let a = c.args in
    let h = added_within a.t.now a.n a.room a.count _ _ c.add_successor.ensures.0 c.in_ok-add_successor.was in omega arith

pub returns-in_err-add_successor : goal.returns-in_err-add_successor
returns-in_err-add_successor c = let a = c.args in
    rw (handed_on c.from_residual.ensures) (place_refused a.t.now a.n a.room a.count a.e.0 a.g.0 a.v c.if-count-v.false c.if-v-count.false c.add_successor.ensures.0 c.add_successor.ensures.1 c.in_err-add_successor.was)

pub returns : goal.returns
returns c = let a = c.args in
    place_new a.t.now a.n a.room a.count a.e.0 a.g.0 a.v c.if-count-v.false c.if-v-count.false c.add_successor.ensures.0 c.add_successor.ensures.1 c.in_ok-add_successor.was
