-- One law for each verdict of `place`; what `grow` leaves in the stretch stands in the table.
use lib.ListN.{length}
use Rattle.egg.proofs.Rooms.{has}
use Rattle.build_lending.proofs.Fits.{fits_small}
use Rattle.builder_arguments.proofs.Places.{place_fits}
use Rattle.builder.proofs.Calls.{grows_refused, grows_new}
use Rattle.builder.proofs.add_successor.Goals as goal

pub stretch_end-end-requires : goal.stretch_end-end-requires
stretch_end-end-requires c = let a = c.args in
    has (length a.table.now) a.b.0 (place_fits (length a.table.now) a.b.0 a.e a.g c.place.ensures c.in-Ok.is)

pub grow-requires : goal.grow-requires
grow-requires c = let a = c.args in
    (fits_small (length a.table.now) a.b.0 (place_fits (length a.table.now) a.b.0 a.e a.g c.place.ensures c.in-Ok.is)).1

pub returns-in-Err : goal.returns-in-Err
returns-in-Err c = let a = c.args in
    grows_refused a.table.now a.b a.e a.g c.place.ensures c.in-Err.is

pub returns-in-Ok : goal.returns-in-Ok
returns-in-Ok c = let a = c.args in
    grows_new a.table.now a.b a.e a.g c.place.ensures c.in-Ok.is c.stretch_end-end.ensures c.grow.ensures
