use borrow.Author.Tests.{lt-ltb, le-ltb}
use Rattle.enumeration_run.specs.Run.{advanced}
use Rattle.enumeration_run.proofs.inner.advance.Goals as goal

pub returns-then-at-n : goal.returns-then-at-n
unfolding advanced
returns-then-at-n c = simp (lt-ltb _ _ c.if-at-n.true)

pub returns-else-at-n : goal.returns-else-at-n
unfolding advanced
returns-else-at-n c = simp (le-ltb _ _ c.if-at-n.false)
