-- One law for each handle.
use mathlib.Core.Path.{sym, ◌∙◌}
use lib.ListN.{length}
use Rattle.subgroup_sides.proofs.SideLaws.{fit_factor, fit_below, fit_over, fit_above}
use Rattle.subgroup_sides.proofs.inner.sides_fit.Goals as goal

pub returns-then-not-fits : goal.returns-then-not-fits
returns-then-not-fits c = fit_factor (length c.args.from.now) (length c.args.table.now) c.args.s (sym c.fits.ensures ∙ c.if-not-fits.true)

pub returns-then-not-all_fit : goal.returns-then-not-all_fit
returns-then-not-all_fit c = fit_below (length c.args.from.now) (length c.args.table.now) c.args.s (sym c.fits.ensures ∙ c.if-not-fits.false) (sym c.all_fit.ensures ∙ c.if-not-all_fit.true)

pub returns-then-not-all_fit-2 : goal.returns-then-not-all_fit-2
returns-then-not-all_fit-2 c = fit_over (length c.args.from.now) (length c.args.table.now) c.args.s (sym c.fits.ensures ∙ c.if-not-fits.false) (sym c.all_fit.ensures ∙ c.if-not-all_fit.false) (sym c.all_fit-2.ensures ∙ c.if-not-all_fit-2.true)

pub returns : goal.returns
returns c = c.all_fit-3.ensures ∙ fit_above (length c.args.from.now) (length c.args.table.now) c.args.s (sym c.fits.ensures ∙ c.if-not-fits.false) (sym c.all_fit.ensures ∙ c.if-not-all_fit.false) (sym c.all_fit-2.ensures ∙ c.if-not-all_fit-2.false)
