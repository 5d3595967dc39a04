use Rattle.enumeration_wake.proofs.WakeLaws.{wake_met, wake_waits}
use Rattle.enumeration_wake.specs.Waking.{state}
use Rattle.enumeration_wake.proofs.inner.wake.Goals as goal

pub returns-then-row : goal.returns-then-row
returns-then-row c = wake_met (c.args.n) (c.args.at) (c.args.side) (state (c.args.t.now) (c.args.w.now) (c.args.top)) (c.args.row) (c.if-row.true) (c.generator-g.ensures) (c.learn-below.ensures) (c.learn.ensures)

pub returns-else-row : goal.returns-else-row
returns-else-row c = wake_waits (c.args.n) (c.args.at) (c.args.side) (state (c.args.t.now) (c.args.w.now) (c.args.top)) (c.args.row) (c.if-row.false) (c.wait.ensures)
