use borrow.Author.Rules.{rules}
use Rattle.build_checks_inverses.proofs.Hints.{none_counted, next_counted, counted_end}
use Rattle.build_checks_inverses.proofs.inner.count_again.Goals as goal

pub loop-e-init : goal.loop-e-init
loop-e-init c = none_counted _ _ _

pub loop-e-preserved : goal.loop-e-preserved
loop-e-preserved c = rw c.put.ensures (next_counted (search rules) c.loop-e.invariant c.loop-e-test.true)

pub returns : goal.returns
returns c = counted_end c.loop-e.invariant c.loop-e-test.false
