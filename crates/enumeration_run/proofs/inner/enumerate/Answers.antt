use lib.ListN.{length}
use Rattle.enumeration_run.proofs.RunLaws.{enumerated_none, enumerated_some}
use Rattle.enumeration_run.proofs.inner.enumerate.Goals as goal

pub returns-then-n-eq0 : goal.returns-then-n-eq0
returns-then-n-eq0 c = enumerated_none c.args.n c.args.orders.now c.args.room (length c.args.t.now) (length c.args.w.now) c.clear.ensures c.clear-2.ensures c.add_rows.ensures c.if-n-eq0.true

pub returns : goal.returns
returns c = enumerated_some c.args.n c.args.orders.now c.args.room (length c.args.t.now) (length c.args.w.now) c.clear.ensures c.clear-2.ensures c.add_rows.ensures c.if-n-eq0.false c.go.ensures
