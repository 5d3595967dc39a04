-- Each test that is passed is a field of `Follows`.
use mathlib.Core.Path.{sym, ◌∙◌}
use native.Mathlib.Omega.{arith}
use borrow.Author.Tests.{eqb-true}
use Rattle.egg.proofs.Rooms.{false_true}
use Rattle.image_check.proofs.inner.checking.follows_on.Goals as goal

pub returns-then-e-y : goal.returns-then-e-y
returns-then-e-y c = λ h. absurd (false_true h)

pub returns-then-parent-from : goal.returns-then-parent-from
returns-then-parent-from c = λ h. absurd (false_true h)

pub returns-then-last : goal.returns-then-last
returns-then-last c = λ h. absurd (false_true h)

pub returns-then-long-word_length : goal.returns-then-long-word_length
returns-then-long-word_length c = λ h. absurd (false_true h)

pub returns : goal.returns
returns c = λ h. record {
  earlier = c.if-e-y.false;
  parent = sym c.parent.ensures ∙ c.if-parent-from.false;
  letter = sym c.last.ensures ∙ c.if-last.false ∙ c.last-2.ensures;
  long = sym c.word_length-long.ensures ∙ c.if-long-word_length.false ∙ omega (arith, c.word_length.ensures);
  longer = sym c.word_length-2.ensures ∙ eqb-true _ _ h ∙ omega (arith, c.word_length-long.ensures);
}
