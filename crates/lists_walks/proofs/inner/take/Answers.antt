-- There is no place left; or there is no way, and it is found at once; or the lane goes by the route that was found.
use native.Mathlib.Omega.{arith}
use mathlib.Core.Path.{sym, ◌∙◌}
use borrow.Author.Tests.{not-false}
use Rattle.egg.proofs.Rooms.{false_true}
use Rattle.lists_walks.proofs.Lanes.{takes_none, takes_long}
use Rattle.lists_walks.proofs.inner.take.Goals as goal

pub returns-then-a-next : goal.returns-then-a-next
returns-then-a-next c = λ h. takes_none (c.requires.0) (c.requires.1) c.if-a-next.true c.idle-lane.ensures

pub returns-then-count-first : goal.returns-then-count-first
returns-then-count-first c = λ h. absurd (false_true (sym c.failed.ensures ∙ h))

pub returns-then-count-second : goal.returns-then-count-second
returns-then-count-second c = λ h. absurd (false_true (sym c.failed-then-count-second.ensures ∙ h))

pub overflow_add-y : goal.overflow_add-y
overflow_add-y c = omega (arith, (c.route-way.ensures (not-false _ c.if-not-way.false)).starts)

pub returns : goal.returns
returns c = λ h. takes_long (c.requires.0) c.if-a-next.false c.if-count-first.false c.if-count-second.false (c.route-way.ensures (not-false _ c.if-not-way.false))
