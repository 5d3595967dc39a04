-- The handle and both elements are tested, and then the quick walk answers.
use Rattle.lists_factor.proofs.Sides.{product_right}
use native.Mathlib.Omega.{arith}
use mathlib.Core.Path.{sym, ◌∙◌}
use Rattle.lists_factor.proofs.inner.product_at_once.Goals as goal

pub returns-then-not-fits : goal.returns-then-not-fits
returns-then-not-fits c = λ h. absurd (omega (arith, h))

pub returns-then-count-a : goal.returns-then-count-a
returns-then-count-a c = λ h. absurd (omega (arith, h))

pub returns-then-count-b : goal.returns-then-count-b
returns-then-count-b c = λ h. absurd (omega (arith, h))

pub part-s-requires : goal.part-s-requires
part-s-requires c = sym (c.fits.ensures) ∙ c.if-not-fits.false

pub returns : goal.returns
returns c = λ h. product_right (c.args.table.now) (c.args.f) (sym (c.fits.ensures) ∙ c.if-not-fits.false) (c.part-s.ensures) (omega (arith, c.if-count-a.false)) (omega (arith, c.if-count-b.false)) (c.number.ensures h)
