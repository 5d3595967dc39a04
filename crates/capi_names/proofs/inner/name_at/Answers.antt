-- A part copied over zeros, and one byte more.
use Rattle.capi_names.proofs.Records.{name_none, name_from}
use Rattle.capi_names.proofs.inner.name_at.Goals as goal

pub returns-then-l-at : goal.returns-then-l-at
returns-then-l-at c = name_none c.args.l.now c.args.i c.if-l-at.true c.misfit.ensures

pub returns : goal.returns
returns c = name_from c.args.l.now c.args.i c.if-l-at.false c.copy_from_slice.ensures.after
