-- One law for each verdict of `storable`; what the step leaves in the stretch stands in the table.
use lib.ListN.{length}
use Rattle.egg.proofs.Refusing.{handed_on}
use Rattle.egg.proofs.Rooms.{has}
use Rattle.builder_arguments.proofs.Places.{store_fits}
use Rattle.builder.proofs.Calls.{stores_refused, stores_done}
use Rattle.builder.proofs.set_successor.Goals as goal

pub stretch_end-end-requires : goal.stretch_end-end-requires
stretch_end-end-requires c = let a = c.args in
    has (length a.table.now) a.b.0 (store_fits a.table.now a.b.0 a.e a.g a.r c.storable.ensures c.in_ok-storable.was)

pub returns-in_err-storable : goal.returns-in_err-storable
returns-in_err-storable c = let a = c.args in
    rw (handed_on c.from_residual.ensures) (stores_refused a.table.now a.b a.e a.g a.r c.storable.ensures c.in_err-storable.was)

pub returns-then-set_successor : goal.returns-then-set_successor
returns-then-set_successor c = let a = c.args in
    stores_done a.table.now a.b a.e a.g a.r c.storable.ensures c.in_ok-storable.was c.stretch_end-end.ensures c.set_successor.ensures (rw c.if-set_successor.true)

pub returns-else-set_successor : goal.returns-else-set_successor
returns-else-set_successor c = let a = c.args in
    stores_done a.table.now a.b a.e a.g a.r c.storable.ensures c.in_ok-storable.was c.stretch_end-end.ensures c.set_successor.ensures (rw c.if-set_successor.false)
