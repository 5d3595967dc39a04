use Rattle.egg.proofs.Rooms.{fits_empty, fits_over, fits_room}
use mathlib.Core.Path.{◌∙◌}
use lib.ListN.{length}
use Rattle.egg.proofs.fits.Goals as goal

pub returns-then-f-eq0 : goal.returns-then-f-eq0
returns-then-f-eq0 c = fits_empty (length c.args.table.now) c.args.f c.if-f-eq0.true

pub returns-then-f : goal.returns-then-f
returns-then-f c = fits_over (length c.args.table.now) c.args.f c.if-f-eq0.false c.if-f.true

pub returns : goal.returns
returns c = c.has_room.ensures ∙ fits_room (length c.args.table.now) c.args.f c.if-f-eq0.false c.if-f.false
