-- By cases on the test.
use borrow.Author.Tests.{lt-ltb, le-ltb}
use Rattle.capi_values.specs.Bridge.{letter_of}
use Rattle.capi_values.proofs.inner.letter_of.Goals as goal

pub returns-then-k-part : goal.returns-then-k-part
unfolding letter_of
returns-then-k-part c = simp (lt-ltb _ _ (c.if-k-part.true))

pub returns-else-k-part : goal.returns-else-k-part
unfolding letter_of
returns-else-k-part c = simp (le-ltb _ _ (c.if-k-part.false))
