use Rattle.egg.proofs.Refusing.{handed_on}
use mathlib.Core.Path.{◌∙◌}
use Rattle.build_checks_group.specs.Lefts.{spelled}
use Rattle.egg.proofs.Scans.{scanning, stops, goes_on, ends}
use Rattle.build_checks_group.proofs.inner.spelled.Goals as goal

pub loop-e-init : goal.loop-e-init
unfolding spelled
loop-e-init c = scanning

pub returns-in_err-columns_row : goal.returns-in_err-columns_row
returns-in_err-columns_row c = handed_on c.from_residual.ensures ∙ stops c.loop-e.invariant c.loop-e-test.true
    (rw (← c.columns_row.ensures, c.in_err-columns_row.was))

pub returns-in_err-spelled_row : goal.returns-in_err-spelled_row
returns-in_err-spelled_row c = handed_on c.from_residual-in_err-spelled_row.ensures ∙ stops c.loop-e.invariant c.loop-e-test.true
    (rw (← c.columns_row.ensures, c.in_ok-columns_row.was, ← c.spelled_row.ensures, c.in_err-spelled_row.was))

pub loop-e-preserved : goal.loop-e-preserved
loop-e-preserved c = goes_on c.loop-e.invariant c.loop-e-test.true
    (rw (← c.columns_row.ensures, c.in_ok-columns_row.was, ← c.spelled_row.ensures, c.in_ok-spelled_row.was))

pub returns : goal.returns
returns c = ends c.loop-e.invariant c.loop-e-test.false
