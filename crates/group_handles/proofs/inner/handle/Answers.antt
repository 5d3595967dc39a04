-- A place beyond the handles has none.
use Rattle.group_handles.proofs.Lists.{handle_none, handle_at_lem}
use mathlib.Core.Path.{◌∙◌}
use Rattle.group_handles.proofs.inner.handle.Goals as goal

pub returns-then-listed-f : goal.returns-then-listed-f
returns-then-listed-f c = c.no_factor.ensures ∙ handle_none c.args.g c.args.f c.listed.ensures.0 c.if-listed-f.true

pub returns : goal.returns
returns c = handle_at_lem c.args.g c.args.f c.listed.ensures.0 c.if-listed-f.false
