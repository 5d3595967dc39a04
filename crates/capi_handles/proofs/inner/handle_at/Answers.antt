-- A test, then five reads.
use Rattle.capi_handles.proofs.Handles.{handle_none, handle_from}
use Rattle.capi_handles.proofs.inner.handle_at.Goals as goal

pub returns-then-l-k : goal.returns-then-l-k
returns-then-l-k c = handle_none (c.args.l.now) (c.args.at) (c.if-l-k.true) (c.factor_of.ensures)

pub returns : goal.returns
returns c = handle_from (c.args.l.now) (c.args.at) (c.if-l-k.false) (c.start_of.ensures) (c.byte_of.ensures) (c.factor_of-2.ensures)
