-- Both branches compute.
use borrow.Author.Tests.{lt-ltb, le-ltb}
use Rattle.factor_walk.proofs.inner.shown.Goals as goal

pub returns-then-i-lt4294967295 : goal.returns-then-i-lt4294967295
returns-then-i-lt4294967295 c = simp (lt-ltb _ _ (c.if-i-lt4294967295.true))

pub returns-else-i-lt4294967295 : goal.returns-else-i-lt4294967295
returns-else-i-lt4294967295 c = simp (le-ltb _ _ (c.if-i-lt4294967295.false))
