-- One law for each answer.
use mathlib.Core.Path.{sym, ◌∙◌}
use Rattle.factor.proofs.Composing.{listed_small}
use Rattle.names.proofs.Rights.{composed_right_many, composed_right_short, composed_right_unlisted, composed_right_fine}
use borrow.Author.Rules.{rules}
use Rattle.names.proofs.inner.composed_right.Goals as goal

pub returns-then-n-gt8 : goal.returns-then-n-gt8
returns-then-n-gt8 c = composed_right_many _ _ _ _ _ _ (c.if-n-gt8.true)

pub returns-then-not-lent_right : goal.returns-then-not-lent_right
returns-then-not-lent_right c = composed_right_short _ _ _ _ _ _ (c.if-n-gt8.false) (sym c.lent_right.ensures ∙ c.if-not-lent_right.true)

pub overflow_mul-room : goal.overflow_mul-room
overflow_mul-room c = record { fits = listed_small (search rules) (search rules) }

pub returns-then-rows-room : goal.returns-then-rows-room
returns-then-rows-room c = composed_right_unlisted _ _ _ _ _ _ (c.if-n-gt8.false) (sym c.lent_right.ensures ∙ c.if-not-lent_right.false) (c.if-rows-room.true)

pub returns : goal.returns
returns c = composed_right_fine _ _ _ _ _ _ (c.if-n-gt8.false) (sym c.lent_right.ensures ∙ c.if-not-lent_right.false) (c.if-rows-room.false)
