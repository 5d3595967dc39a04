use Rattle.egg.proofs.Answers.{step_handle, step_element, step_generator, step_read_lem}
use mathlib.Core.Path.{sym, ◌∙◌}
use Rattle.egg.proofs.step.Goals as goal

pub returns-then-not-fits : goal.returns-then-not-fits
returns-then-not-fits c = step_handle c.args.table.now c.args.f c.args.e c.args.g (sym c.fits.ensures ∙ c.if-not-fits.true)

pub returns-then-f-e : goal.returns-then-f-e
returns-then-f-e c = step_element c.args.table.now c.args.f c.args.e c.args.g (sym c.fits.ensures ∙ c.if-not-fits.false) c.if-f-e.true

pub returns-then-f-g : goal.returns-then-f-g
returns-then-f-g c = step_generator c.args.table.now c.args.f c.args.e c.args.g (sym c.fits.ensures ∙ c.if-not-fits.false) c.if-f-e.false c.if-f-g.true

pub part-requires : goal.part-requires
part-requires c = sym c.fits.ensures ∙ c.if-not-fits.false

pub returns : goal.returns
returns c = c.next.ensures ∙ rw c.part.ensures (step_read_lem c.args.table.now c.args.f c.args.e c.args.g (sym c.fits.ensures ∙ c.if-not-fits.false) c.if-f-e.false c.if-f-g.false)
