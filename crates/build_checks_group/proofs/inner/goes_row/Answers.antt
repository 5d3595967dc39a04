-- What the quick look has found fine is fine; else the careful one has the answer.
use mathlib.Core.Path.{sym}
use Rattle.build_checks_group.proofs.inner.goes_row.Goals as goal

pub returns-then-goes_at_once : goal.returns-then-goes_at_once
returns-then-goes_at_once c = sym (c.goes_at_once.ensures c.if-goes_at_once.true)
