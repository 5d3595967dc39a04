-- What was seen of the handles decides, and has the answer.
use Rattle.egg.proofs.Refusing.{handed_on}
use lib.ListN.{length}
use mathlib.Core.Path.{◌∙◌, ap}
use Rattle.std.specs.Prelude.{Ok}
use Rattle.group_handles.specs.declared.inner.Seen.{Seen}
use Rattle.group.specs.Questions.{generators_answer}
use Rattle.factor.proofs.Admits.{count_refused, count_fine}
use Rattle.group.proofs.Calls.{none_admitted}
use Rattle.group.proofs.generator_count.Goals as goal

pub returns-in_err-admit_none_seen : goal.returns-in_err-admit_none_seen
unfolding generators_answer
returns-in_err-admit_none_seen c = handed_on c.from_residual.ensures ∙ count_refused (none_admitted (length c.args.table.now) c.args.g c.look-seen.ensures.0 c.admit_none_seen.ensures) _ c.in_err-admit_none_seen.was

pub returns : goal.returns
unfolding generators_answer
returns c = ap (λ (s : Seen). Ok s.generators) c.look-seen.ensures.0 ∙ count_fine (none_admitted (length c.args.table.now) c.args.g c.look-seen.ensures.0 c.admit_none_seen.ensures) _ c.in_ok-admit_none_seen.was
