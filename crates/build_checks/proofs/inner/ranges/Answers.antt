use Rattle.egg.proofs.Refusing.{handed_on}
use mathlib.Core.Path.{◌∙◌}
use Rattle.build_checks.specs.Checks.{ranges}
use Rattle.egg.proofs.Scans.{scanning, stops, goes_on, ends}
use Rattle.build_checks.proofs.inner.ranges.Goals as goal

pub loop-e-init : goal.loop-e-init
unfolding ranges
loop-e-init c = scanning

pub returns-in_err-range_row : goal.returns-in_err-range_row
returns-in_err-range_row c = handed_on c.from_residual.ensures ∙ stops c.loop-e.invariant c.loop-e-test.true
    (rw (← c.range_row.ensures, c.in_err-range_row.was))

pub returns-in_err-links : goal.returns-in_err-links
returns-in_err-links c = handed_on c.from_residual-in_err-links.ensures ∙ stops c.loop-e.invariant c.loop-e-test.true
    (rw (← c.range_row.ensures, c.in_ok-range_row.was, ← c.links.ensures, c.in_err-links.was))

pub loop-e-preserved : goal.loop-e-preserved
loop-e-preserved c = goes_on c.loop-e.invariant c.loop-e-test.true
    (rw (← c.range_row.ensures, c.in_ok-range_row.was, ← c.links.ensures, c.in_ok-links.was))

pub returns : goal.returns
returns c = ends c.loop-e.invariant c.loop-e-test.false
