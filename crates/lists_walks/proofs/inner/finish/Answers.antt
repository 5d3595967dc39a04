-- The last letters stand in one row, and the ending of the walk is the product at the lane's place.
use native.Mathlib.Omega.{arith}
use Rattle.egg.proofs.Rooms.{false_true}
use Rattle.lists_walks.proofs.Lanes.{finishes_idle, finishes}
use Rattle.lists_walks.proofs.inner.finish.Goals as goal

pub returns-then-a-place : goal.returns-then-a-place
returns-then-a-place c = λ h. finishes_idle _ c.if-a-place.true

pub returns-then-y-eq0 : goal.returns-then-y-eq0
returns-then-y-eq0 c = λ h. absurd (false_true h)

pub recorded-z-requires : goal.recorded-z-requires
recorded-z-requires c = (c.requires.0.rows, (omega (arith, (c.retrace_letters-y.ensures (omega (arith, c.if-y-eq0.false))).0), omega arith))

pub returns-then-count-z : goal.returns-then-count-z
returns-then-count-z c = λ h. absurd (false_true h)

pub returns : goal.returns
returns c = λ h. let found = c.retrace_letters-y.ensures (omega (arith, c.if-y-eq0.false)) in finishes (c.requires.0) (c.requires.1.0) c.if-a-place.false c.recorded-c.ensures found.1.0 (c.requires.1.1) (omega (arith, c.if-y-eq0.false)) found.0 found.1.1 c.recorded-z.ensures c.if-count-z.false c.chosen.ensures
