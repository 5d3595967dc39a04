-- The pass shows them over any buffer.
use mathlib.Core.Path.{ap}
use Rattle.group_handles.specs.declared.inner.Seen.{Seen}
use Rattle.group_handles.proofs.inner.elements_of.Goals as goal

pub returns : goal.returns
returns c = ap (λ (s : Seen). s.elements) c.look.ensures.0
