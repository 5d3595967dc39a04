use lib.ListN.{length}
use Rattle.enumeration_quick_run.proofs.SweepLaws.{swiftly_none, swiftly_some}
use Rattle.enumeration_quick_run.proofs.inner.swiftly.Goals as goal

pub returns-then-n-eq0 : goal.returns-then-n-eq0
returns-then-n-eq0 c = swiftly_none (c.args.n) (c.args.orders.now) (c.args.room) (length (c.args.t.now)) (c.clear.ensures) (c.if-n-eq0.true)

pub returns : goal.returns
returns c = swiftly_some (c.args.n) (c.args.orders.now) (c.args.room) (length (c.args.t.now)) (c.clear.ensures) (c.if-n-eq0.false) (c.sweep.ensures)
