use Rattle.egg.proofs.Refusing.{handed_on}
use mathlib.Core.Path.{sym, ◌∙◌}
use Rattle.build_checks_group.specs.Lefts.{all_go}
use Rattle.egg.proofs.Scans.{scanning, goes_on, ends, stops}
use Rattle.build_checks_group.proofs.inner.all_go.Goals as goal

pub loop-x-init : goal.loop-x-init
unfolding all_go
loop-x-init c = scanning

pub returns-in_err-goes_row : goal.returns-in_err-goes_row
returns-in_err-goes_row c = handed_on c.from_residual.ensures ∙ stops c.loop-x.invariant c.loop-x-test.true (sym c.goes_row.ensures ∙ c.in_err-goes_row.was)

pub loop-x-preserved : goal.loop-x-preserved
loop-x-preserved c = goes_on c.loop-x.invariant c.loop-x-test.true
    (sym c.goes_row.ensures ∙ c.in_ok-goes_row.was)

pub returns : goal.returns
returns c = ends c.loop-x.invariant c.loop-x-test.false
