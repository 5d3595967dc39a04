-- One law for each answer, from what the tests and the callees ensure.
use mathlib.Core.Path.{sym, ◌∙◌}
use Rattle.builder.proofs.Calls.{begin_many, begin_short, begin_done}
use Rattle.builder.proofs.begin.Goals as goal

pub returns-then-n-gt8 : goal.returns-then-n-gt8
returns-then-n-gt8 c = let a = c.args in
    begin_many a.table.now a.start a.room a.n c.if-n-gt8.true

pub returns-then-not-has_room : goal.returns-then-not-has_room
returns-then-not-has_room c = let a = c.args in
    begin_short a.table.now a.start a.room a.n c.if-n-gt8.false (sym c.has_room.ensures ∙ c.if-not-has_room.true)

pub stretch_end-end-requires : goal.stretch_end-end-requires
stretch_end-end-requires c = sym c.has_room.ensures ∙ c.if-not-has_room.false

pub returns : goal.returns
returns c = let a = c.args in
    begin_done a.table.now a.start a.room a.n c.if-n-gt8.false (sym c.has_room.ensures ∙ c.if-not-has_room.false) c.stretch_end-end.ensures c.clear.ensures
