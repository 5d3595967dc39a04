-- The lists are refused; or one place is asked, or few, or several.
use Rattle.lists.proofs.Answers.{lists_wrong, lists_right}
use Rattle.lists.proofs.Lengths.{right_lengths}
use mathlib.Core.Path.{sym, ◌∙◌}
use Rattle.lists_factor.specs.Each.{compose_each}
use Rattle.lists_factor.proofs.compose_each.Goals as goal

pub returns-then-not-lengths_right : goal.returns-then-not-lengths_right
unfolding compose_each
returns-then-not-lengths_right c = lists_wrong (c.lengths_right.ensures) _ _ _ (c.if-not-lengths_right.true) (c.lists_refused.ensures)

pub compose_one-requires : goal.compose_one-requires
compose_one-requires c = let l = right_lengths _ _ _ (sym (c.lengths_right.ensures) ∙ c.if-not-lengths_right.false) in (c.if-a-eq1.true, (sym l.0, sym l.1.0))

pub returns-then-a-eq1 : goal.returns-then-a-eq1
unfolding compose_each
returns-then-a-eq1 c = lists_right (c.lengths_right.ensures) _ _ _ (c.if-not-lengths_right.false) (c.compose_one.ensures)

pub compose_few-requires : goal.compose_few-requires
compose_few-requires c = let l = right_lengths _ _ _ (sym (c.lengths_right.ensures) ∙ c.if-not-lengths_right.false) in (c.few.ensures (c.if-few.true), (sym l.0, sym l.1.0))

pub returns-then-few : goal.returns-then-few
unfolding compose_each
returns-then-few c = lists_right (c.lengths_right.ensures) _ _ _ (c.if-not-lengths_right.false) (c.compose_few.ensures)

pub compose_several-requires : goal.compose_several-requires
compose_several-requires c = let l = right_lengths _ _ _ (sym (c.lengths_right.ensures) ∙ c.if-not-lengths_right.false) in (sym l.0, sym l.1.0)

pub returns : goal.returns
unfolding compose_each
returns c = lists_right (c.lengths_right.ensures) _ _ _ (c.if-not-lengths_right.false) (c.compose_several.ensures)
