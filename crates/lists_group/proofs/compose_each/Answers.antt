-- The lists are refused; or one place is asked; or few, with a short list of our own; or more, a piece at a time.
use borrow.Author.Rules.{rules}
use Rattle.lists.proofs.Answers.{lists_wrong, lists_right, only_place}
use Rattle.lists.proofs.Lengths.{right_lengths}
use Rattle.lists_group.specs.Each.{compose_each}
use Rattle.lists.proofs.Pieces.{in_pieces}
use mathlib.Core.Path.{sym, ◌∙◌}
use native.Mathlib.Omega.{arith}
use Rattle.lists_group.proofs.compose_each.Goals as goal

pub returns-then-not-lengths_right : goal.returns-then-not-lengths_right
unfolding compose_each
returns-then-not-lengths_right c = lists_wrong (c.lengths_right.ensures) _ _ _ (c.if-not-lengths_right.true) (c.lists_refused.ensures)

pub bounds-b-0 : goal.bounds-b-0
bounds-b-0 c = let l = right_lengths _ _ _ (sym (c.lengths_right.ensures) ∙ c.if-not-lengths_right.false) in omega (arith, l.0, c.if-a-eq1.true)

pub hand_over_one-requires : goal.hand_over_one-requires
hand_over_one-requires c = let l = right_lengths _ _ _ (sym (c.lengths_right.ensures) ∙ c.if-not-lengths_right.false) in sym l.1.0 ∙ c.if-a-eq1.true

pub returns-then-a-eq1 : goal.returns-then-a-eq1
unfolding compose_each
returns-then-a-eq1 c = lists_right (c.lengths_right.ensures) _ _ _ (c.if-not-lengths_right.false) (only_place (c.args.out.now) _ (c.if-a-eq1.true) (c.compose-said.ensures) (c.hand_over_one.ensures))

pub compose_by-requires : goal.compose_by-requires
compose_by-requires c = let l = right_lengths _ _ _ (sym (c.lengths_right.ensures) ∙ c.if-not-lengths_right.false) in (sym l.0, (sym l.1.0, search rules))

pub returns-then-a-le64 : goal.returns-then-a-le64
unfolding compose_each
returns-then-a-le64 c = lists_right (c.lengths_right.ensures) _ _ _ (c.if-not-lengths_right.false) (c.compose_by.ensures)

pub compose_from-requires : goal.compose_from-requires
compose_from-requires c = let l = right_lengths _ _ _ (sym c.lengths_right.ensures ∙ c.if-not-lengths_right.false) in (sym l.0, sym l.1.0)

pub returns : goal.returns
unfolding compose_each
returns c = in_pieces _ c.lengths_right.ensures c.if-not-lengths_right.false c.compose_from.ensures c.compose_from.auto.out
