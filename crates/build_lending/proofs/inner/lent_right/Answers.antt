-- One law for each answer, from what `has_room` and `work_need` ensure.
use Rattle.build_lending.proofs.Lending.{lent_short, lent_work}
use Rattle.build_lending.proofs.inner.lent_right.Goals as goal

pub returns-then-not-has_room : goal.returns-then-not-has_room
returns-then-not-has_room c = let a = c.args in
    lent_short a.table a.start a.work a.room a.n c.has_room.ensures c.if-not-has_room.true

pub returns : goal.returns
returns c = let a = c.args in
    lent_work a.table a.start a.work a.room a.n c.has_room.ensures c.if-not-has_room.false c.work_need.ensures
