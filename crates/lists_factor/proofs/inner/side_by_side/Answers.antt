-- The handle is tested, and then the walks answer.
use Rattle.lists_factor.proofs.Sides.{factor_right}
use Rattle.egg.proofs.Rooms.{false_true}
use mathlib.Core.Path.{sym, ◌∙◌}
use Rattle.lists_factor.proofs.inner.side_by_side.Goals as goal

pub returns-then-not-fits : goal.returns-then-not-fits
returns-then-not-fits c = λ h. absurd (false_true h)

pub part-s-requires : goal.part-s-requires
part-s-requires c = sym (c.fits.ensures) ∙ c.if-not-fits.false

pub returns : goal.returns
returns c = λ h. factor_right (c.args.table.now) (c.args.f) (sym (c.fits.ensures) ∙ c.if-not-fits.false) (c.part-s.ensures) (c.products.ensures h)
