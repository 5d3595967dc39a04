-- The verdict on the handles decides.
use Rattle.egg.proofs.Refusing.{handed_on}
use mathlib.Core.Path.{◌∙◌, ap}
use Rattle.std.specs.Prelude.{Ok}
use Rattle.factor.proofs.Admits.{count_refused, count_fine}
use Rattle.subgroup.specs.Questions.{generator_count_answer}
use Rattle.subgroup.proofs.generator_count.Goals as goal

pub returns-in_err-admit_handles : goal.returns-in_err-admit_handles
unfolding generator_count_answer
returns-in_err-admit_handles c = handed_on c.from_residual.ensures ∙ count_refused c.admit_handles.ensures _ c.in_err-admit_handles.was

pub returns : goal.returns
unfolding generator_count_answer
returns c = ap Ok c.sub_generators.ensures ∙ count_fine c.admit_handles.ensures _ c.in_ok-admit_handles.was
