-- The first lane takes places from the start, and the others are idle.
use native.Mathlib.Omega.{arith}
use borrow.Author.Tests.{not-false}
use Rattle.egg.proofs.Rooms.{false_true}
use Rattle.lists_walks.proofs.Lanes.{ready_kept, idle_stands}
use Rattle.lists_walks.proofs.Walls.{started}
use Rattle.lists_walks.proofs.inner.side_by_side.Goals as goal

pub settle-one-requires : goal.settle-one-requires
settle-one-requires c = (c.requires, (omega arith, idle_stands 0 (c.requires.some)))

pub returns-then-not-one : goal.returns-then-not-one
returns-then-not-one c = λ h. absurd (false_true h)

pub lanes-requires : goal.lanes-requires
lanes-requires c = (ready_kept c.requires c.settle-one.auto.results, started (c.requires.some) (c.settle-one.ensures (not-false _ c.if-not-one.false)) c.idle-q.ensures)
