use Rattle.egg.proofs.Refusing.{handed_on}
use Rattle.egg.proofs.Scans.{scanning, goes_on, ends, stops}
use mathlib.Core.Path.{sym, ◌∙◌}
use Rattle.image_writing.specs.Written.{all_known}
use Rattle.image_writing.proofs.inner.all_known.Goals as goal

pub loop-e-init : goal.loop-e-init
unfolding all_known
loop-e-init c = scanning

pub returns-in_err-known_row : goal.returns-in_err-known_row
returns-in_err-known_row c = handed_on c.from_residual.ensures ∙ stops c.loop-e.invariant c.loop-e-test.true (sym c.known_row.ensures ∙ c.in_err-known_row.was)

pub loop-e-preserved : goal.loop-e-preserved
loop-e-preserved c = goes_on c.loop-e.invariant c.loop-e-test.true (sym c.known_row.ensures ∙ c.in_ok-known_row.was)

pub returns : goal.returns
returns c = ends c.loop-e.invariant c.loop-e-test.false
