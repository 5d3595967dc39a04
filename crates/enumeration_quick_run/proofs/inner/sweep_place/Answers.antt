use Rattle.egg.proofs.Laws.{got}
use Rattle.enumeration_quick_run.proofs.SweepLaws.{sweeps_known, sweeps_settles}
use Rattle.enumeration_quick_run.proofs.inner.sweep_place.Goals as goal

pub returns-then-get-ne0 : goal.returns-then-get-ne0
returns-then-get-ne0 c = sweeps_known (c.args.n) (c.args.orders.now) (c.args.room) (c.args.count) (c.args.e) (c.args.g) (c.args.t.now) (got (c.args.t.now) (c.get.ensures) (c.successor_at.ensures.at)) (c.if-get-ne0.true)

pub returns : goal.returns
returns c = sweeps_settles (c.args.n) (c.args.orders.now) (c.args.room) (c.args.count) (c.args.e) (c.args.g) (c.args.t.now) (got (c.args.t.now) (c.get.ensures) (c.successor_at.ensures.at)) (c.if-get-ne0.false) (c.loop_from-found.ensures) (c.settle_step.ensures)
