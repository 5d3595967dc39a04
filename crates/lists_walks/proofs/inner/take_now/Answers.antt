-- What is stored is the product at its place.
use mathlib.Core.Path.{sym, ◌∙◌}
use Rattle.egg.proofs.Rooms.{false_true}
use Rattle.lists_walks.proofs.Lanes.{takes_short}
use Rattle.lists_walks.proofs.inner.take_now.Goals as goal

pub returns-then-count-x : goal.returns-then-count-x
returns-then-count-x c = λ h. absurd (false_true (sym c.failed.ensures ∙ h))

pub returns : goal.returns
returns c = λ h. takes_short (c.requires.0) (c.requires.1.0) (record { first = c.requires.1.1.0; second = c.requires.1.1.1; product = c.number-x.ensures c.if-count-x.false }) c.idle-lane.ensures
