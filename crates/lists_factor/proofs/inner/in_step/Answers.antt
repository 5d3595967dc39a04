-- The handle is tested, and then the rounds answer.
use Rattle.lists_factor.proofs.Sides.{powers_right}
use Rattle.egg.proofs.Rooms.{false_true}
use mathlib.Core.Path.{sym, ◌∙◌}
use Rattle.lists_factor.proofs.inner.in_step.Goals as goal

pub returns-then-not-worth_lanes : goal.returns-then-not-worth_lanes
returns-then-not-worth_lanes c = λ h. absurd (false_true h)

pub returns-then-not-fits : goal.returns-then-not-fits
returns-then-not-fits c = λ h. absurd (false_true h)

pub part-s-requires : goal.part-s-requires
part-s-requires c = sym (c.fits.ensures) ∙ c.if-not-fits.false

pub returns : goal.returns
returns c = λ h. powers_right (c.args.table.now) (c.args.f) (sym (c.fits.ensures) ∙ c.if-not-fits.false) (c.part-s.ensures) (c.powers.ensures h)
