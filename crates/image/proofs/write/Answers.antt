-- One law for each answer; that the stores leave the bytes of the image is in `write_done`.
use Rattle.egg.proofs.Refusing.{handed_on}
use mathlib.Core.Path.{refl, sym, ◌∙◌}
use lib.ListN.{length}
use Rattle.build_lending.proofs.Fits.{fits_small}
use Rattle.image.proofs.WriteLaws.{write_handle, write_short, write_unknown, write_done}
use Rattle.image.proofs.write.Goals as goal

pub returns-then-not-fits : goal.returns-then-not-fits
returns-then-not-fits c = write_handle c.args.table.now c.args.f c.args.out.now (sym c.fits.ensures ∙ c.if-not-fits.true) refl

pub size-need-requires : goal.size-need-requires
size-need-requires c = fits_small (length c.args.table.now) c.args.f (sym c.fits.ensures ∙ c.if-not-fits.false)

pub returns-then-out-need : goal.returns-then-out-need
returns-then-out-need c = write_short c.args.table.now c.args.f c.args.out.now (sym c.fits.ensures ∙ c.if-not-fits.false) c.size-need.ensures c.if-out-need.true refl

pub part-s-requires : goal.part-s-requires
part-s-requires c = sym c.fits.ensures ∙ c.if-not-fits.false

pub put_rows-requires : goal.put_rows-requires
put_rows-requires c = (fits_small (length c.args.table.now) c.args.f (sym c.fits.ensures ∙ c.if-not-fits.false)).1

pub returns-in_err-all_known : goal.returns-in_err-all_known
returns-in_err-all_known c = rw (handed_on c.from_residual.ensures) (write_unknown c.args.table.now c.args.f c.args.out.now (sym c.fits.ensures ∙ c.if-not-fits.false) c.size-need.ensures c.if-out-need.false (rw c.part-s.ensures at c.all_known.ensures) c.in_err-all_known.was)

pub returns : goal.returns
returns c = write_done c.args.table.now c.args.f c.args.out.now (sym c.fits.ensures ∙ c.if-not-fits.false) c.size-need.ensures c.if-out-need.false (rw c.part-s.ensures at c.all_known.ensures) c.in_ok-all_known.was c.put_head.ensures (rw c.part-s.ensures at c.put_rows.ensures)
