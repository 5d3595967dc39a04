-- The lists are refused; or one place is asked; or few, with a short list of our own; or a piece at a time.
use Rattle.lists.proofs.Answers.{lists_wrong, lists_right}
use Rattle.lists.proofs.Lengths.{right_lengths}
use mathlib.Core.Path.{sym, ◌∙◌}
use Rattle.lists.proofs.Pieces.{in_pieces}
use Rattle.lists_factor.specs.Each.{inverse_each}
use borrow.Author.Rules.{rules}
use Rattle.lists_factor.proofs.inverse_each.Goals as goal

pub returns-then-not-lengths_right : goal.returns-then-not-lengths_right
unfolding inverse_each
returns-then-not-lengths_right c = lists_wrong (c.lengths_right.ensures) _ _ _ (c.if-not-lengths_right.true) (c.lists_refused.ensures)

pub inverse_one-requires : goal.inverse_one-requires
inverse_one-requires c = let l = right_lengths _ _ _ (sym (c.lengths_right.ensures) ∙ c.if-not-lengths_right.false) in (c.if-a-eq1.true, sym l.1.0)

pub returns-then-a-eq1 : goal.returns-then-a-eq1
unfolding inverse_each
returns-then-a-eq1 c = lists_right (c.lengths_right.ensures) _ _ _ (c.if-not-lengths_right.false) (c.inverse_one.ensures)

pub inverse_by-requires : goal.inverse_by-requires
inverse_by-requires c = let l = right_lengths _ _ _ (sym (c.lengths_right.ensures) ∙ c.if-not-lengths_right.false) in (sym l.1.0, search rules)

pub returns-then-a-le64 : goal.returns-then-a-le64
unfolding inverse_each
returns-then-a-le64 c = lists_right (c.lengths_right.ensures) _ _ _ (c.if-not-lengths_right.false) (c.inverse_by.ensures)

pub inverse_from-requires : goal.inverse_from-requires
inverse_from-requires c = let l = right_lengths _ _ _ (sym (c.lengths_right.ensures) ∙ c.if-not-lengths_right.false) in sym l.1.0

pub returns : goal.returns
unfolding inverse_each
returns c = in_pieces _ (c.lengths_right.ensures) (c.if-not-lengths_right.false) (c.inverse_from.ensures) (c.inverse_from.auto.out)
