-- Going on from what each call reached, by the laws of `on_reached`.
use Rattle.egg.proofs.Refusing.{handed_on}
use mathlib.Core.Path.{◌∙◌}
use Rattle.factor_questions.specs.Walks.{conjugate_in}
use Rattle.factor_word_walks.proofs.Walks.{on_refused, on_element_lem}
use Rattle.factor_questions.proofs.inner.conjugate_with_care.Goals as goal

pub returns-in_err-c : goal.returns-in_err-c
unfolding conjugate_in
returns-in_err-c c = handed_on c.from_residual.ensures ∙ on_refused c.compose_with_care.ensures _ c.in_err-c.was

pub returns-in_err-i : goal.returns-in_err-i
unfolding conjugate_in
returns-in_err-i c = handed_on c.from_residual-in_err-i.ensures ∙ on_refused c.inverse_in.ensures _ c.in_err-i.was ∙ on_element_lem c.compose_with_care.ensures _ c.in_ok-c.was

pub returns : goal.returns
unfolding conjugate_in
returns c = c.compose_with_care-2.ensures ∙ on_element_lem c.inverse_in.ensures _ c.in_ok-i.was ∙ on_element_lem c.compose_with_care.ensures _ c.in_ok-c.was
