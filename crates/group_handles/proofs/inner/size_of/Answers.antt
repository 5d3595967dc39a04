-- A place beyond the handles has the size 1.
use Rattle.group_handles.specs.Handles.{handles}
use Rattle.group_handles.proofs.Lists.{size_none, sizes_at}
use mathlib.Core.Path.{◌∙◌, ap}
use Rattle.egg.specs.declared.Factor.{Factor}
use Rattle.group_handles.proofs.inner.size_of.Goals as goal

pub returns-then-listed-f : goal.returns-then-listed-f
returns-then-listed-f c = size_none (handles c.args.g) c.args.f (rw (← c.listed.ensures.0) c.if-listed-f.true)

pub returns : goal.returns
returns c = ap (λ (h : Factor). h.elements) c.handle.ensures ∙ sizes_at (handles c.args.g) c.args.f (rw (← c.listed.ensures.0) c.if-listed-f.false)
