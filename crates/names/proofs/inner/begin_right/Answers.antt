-- One law for each answer.
use mathlib.Core.Path.{sym, ◌∙◌}
use Rattle.names.proofs.Rights.{begin_right_many, begin_right_short, begin_right_fine}
use Rattle.names.proofs.inner.begin_right.Goals as goal

pub returns-then-n-gt8 : goal.returns-then-n-gt8
returns-then-n-gt8 c = begin_right_many _ _ _ _ (c.if-n-gt8.true)

pub returns-then-not-has_room : goal.returns-then-not-has_room
returns-then-not-has_room c = begin_right_short _ _ _ _ (c.if-n-gt8.false) (sym c.has_room.ensures ∙ c.if-not-has_room.true)

pub returns : goal.returns
returns c = begin_right_fine _ _ _ _ (c.if-n-gt8.false) (sym c.has_room.ensures ∙ c.if-not-has_room.false)
