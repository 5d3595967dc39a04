-- Without a hint there is nothing to show; the two ways to one are `hint_single` and `hint_on`.
use mathlib.Core.Path.{sym, ◌∙◌}
use borrow.Author.Rules.{rules}
use Rattle.build_checks_inverses.proofs.Hints.{hint_single, hint_on}
use Rattle.image_check.proofs.inner.checking.hint_of.Goals as goal

pub returns-then-word_length-eq1 : goal.returns-then-word_length-eq1
returns-then-word_length-eq1 c = λ H. hint_single (search rules) c.last-g.ensures c.if-n-g.false
    (sym c.word_length-then-word_length-eq1.ensures ∙ c.if-word_length-ne0.false) (sym c.word_length.ensures ∙ c.if-word_length-eq1.true) c.pack.ensures

pub returns : goal.returns
returns c = λ H. hint_on (search rules) c.last-g.ensures c.if-n-g.false H
    c.parent-p.ensures c.if-e-p.false c.get-h.ensures c.if-h-eq0.false
    (c.follows_on.ensures c.if-not-follows_on.false) c.pack-2.ensures
