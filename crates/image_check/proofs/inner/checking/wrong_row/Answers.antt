use Rattle.egg.proofs.Refusing.{handed_on}
use mathlib.Core.Path.{sym, ◌∙◌}
use Rattle.build_checks.specs.Checks.{wrong_row}
use Rattle.egg.proofs.Scans.{scanning, goes_on, ends, stops}
use Rattle.image_check.proofs.inner.checking.wrong_row.Goals as goal

pub loop-g-init : goal.loop-g-init
unfolding wrong_row
loop-g-init c = scanning

pub returns-in_err-wrong_at : goal.returns-in_err-wrong_at
returns-in_err-wrong_at c = handed_on c.from_residual.ensures ∙ stops c.loop-g.invariant c.loop-g-test.true (sym c.wrong_at.ensures ∙ c.in_err-wrong_at.was)

pub loop-g-preserved : goal.loop-g-preserved
loop-g-preserved c = goes_on c.loop-g.invariant c.loop-g-test.true
    (sym c.wrong_at.ensures ∙ c.in_ok-wrong_at.was)

pub returns : goal.returns
returns c = ends c.loop-g.invariant c.loop-g-test.false
