-- One law for each answer, by the tests that lead to it.
use mathlib.Core.Path.{sym, ◌∙◌}
use lib.ListN.{length}
use Rattle.factor.proofs.Admits.{admits_handle, admits_first, admits_second, admits_fine}
use Rattle.factor.proofs.inner.admit.Goals as goal

pub returns-then-not-fits : goal.returns-then-not-fits
returns-then-not-fits c = let a = c.args in admits_handle (length a.table.now) a.f _ _ (sym c.fits.ensures ∙ c.if-not-fits.true)

pub returns-then-f-a : goal.returns-then-f-a
returns-then-f-a c = let a = c.args in admits_first (length a.table.now) a.f _ _ (sym c.fits.ensures ∙ c.if-not-fits.false) c.if-f-a.true

pub returns-then-f-b : goal.returns-then-f-b
returns-then-f-b c = let a = c.args in admits_second (length a.table.now) a.f _ _ (sym c.fits.ensures ∙ c.if-not-fits.false) c.if-f-a.false c.if-f-b.true

pub returns : goal.returns
returns c = let a = c.args in admits_fine (length a.table.now) a.f _ _ (sym c.fits.ensures ∙ c.if-not-fits.false) c.if-f-a.false c.if-f-b.false
