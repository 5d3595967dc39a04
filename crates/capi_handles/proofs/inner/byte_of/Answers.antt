-- By cases on the test.
use borrow.Author.Tests.{lt-ltb, le-ltb}
use Rattle.capi_handles.proofs.inner.byte_of.Goals as goal

pub returns-then-x-gt255 : goal.returns-then-x-gt255
returns-then-x-gt255 c = simp (lt-ltb _ _ (c.if-x-gt255.true))

pub returns-else-x-gt255 : goal.returns-else-x-gt255
returns-else-x-gt255 c = simp (le-ltb _ _ (c.if-x-gt255.false))
