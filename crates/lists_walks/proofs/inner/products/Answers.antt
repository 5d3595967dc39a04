-- What was tested is what both ways want.
use native.Mathlib.Omega.{arith}
use Rattle.egg.proofs.Rooms.{false_true}
use Rattle.lists_walks.proofs.inner.products.Goals as goal

pub returns-then-not-rows_within : goal.returns-then-not-rows_within
returns-then-not-rows_within c = λ h. absurd (false_true h)

pub returns-then-count-eq0 : goal.returns-then-count-eq0
returns-then-count-eq0 c = λ h. absurd (false_true h)

pub one_after_another-requires : goal.one_after_another-requires
one_after_another-requires c = record { rows = c.rows_within.ensures c.if-not-rows_within.false; some = omega (arith, c.if-count-eq0.false); paired = c.requires.0; room = c.requires.1 }

pub side_by_side-requires : goal.side_by_side-requires
side_by_side-requires c = record { rows = c.rows_within.ensures c.if-not-rows_within.false; some = omega (arith, c.if-count-eq0.false); paired = c.requires.0; room = c.requires.1 }
