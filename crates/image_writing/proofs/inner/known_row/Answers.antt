use Rattle.egg.proofs.Refusing.{handed_on}
use Rattle.egg.proofs.Scans.{scanning, goes_on, ends, stops}
use mathlib.Core.Path.{sym, ◌∙◌}
use Rattle.image_writing.specs.Written.{known_row}
use Rattle.image_writing.proofs.inner.known_row.Goals as goal

pub loop-g-init : goal.loop-g-init
unfolding known_row
loop-g-init c = scanning

pub returns-in_err-known : goal.returns-in_err-known
returns-in_err-known c = handed_on c.from_residual.ensures ∙ stops c.loop-g.invariant c.loop-g-test.true (sym c.known.ensures ∙ c.in_err-known.was)

pub loop-g-preserved : goal.loop-g-preserved
loop-g-preserved c = goes_on c.loop-g.invariant c.loop-g-test.true (sym c.known.ensures ∙ c.in_ok-known.was)

pub returns : goal.returns
returns c = ends c.loop-g.invariant c.loop-g-test.false
