-- The last test is the answer, the others are passed.
use Rattle.egg.proofs.Rooms.{false_true}
use borrow.Author.Tests.{ltb-true}
use Rattle.lists_walks.proofs.inner.all_below.Goals as goal

pub returns-then-count-c : goal.returns-then-count-c
returns-then-count-c c = λ h. absurd (false_true h)

pub returns-then-count-c-2 : goal.returns-then-count-c-2
returns-then-count-c-2 c = λ h. absurd (false_true h)

pub returns-then-count-c-3 : goal.returns-then-count-c-3
returns-then-count-c-3 c = λ h. absurd (false_true h)

pub returns : goal.returns
returns c = λ h. record { p = c.if-count-c.false; q = c.if-count-c-2.false; r = c.if-count-c-3.false; t = ltb-true _ _ h }
