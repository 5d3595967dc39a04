-- What was seen of the handles says it.
use mathlib.Core.Path.{ap}
use Rattle.group_handles.specs.declared.inner.Seen.{Seen}
use Rattle.group_handles.proofs.inner.all_fit.Goals as goal

pub returns : goal.returns
returns c = ap (λ (s : Seen). s.fit) c.look.ensures.0
