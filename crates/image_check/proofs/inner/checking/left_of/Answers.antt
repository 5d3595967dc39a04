-- The test decides the pick of `left_of`.
use mathlib.Core.Path.{◌∙◌}
use borrow.Author.Tests.{lt-ltb, le-ltb}
use Rattle.image_check.proofs.inner.checking.left_of.Goals as goal

pub returns-then-x-gt0 : goal.returns-then-x-gt0
returns-then-x-gt0 c = c.step_last.ensures
    ∙ rw (← c.parent-p.ensures, ← c.get-from.ensures) (simp (lt-ltb _ _ c.if-x-gt0.true))

pub returns : goal.returns
returns c = c.step.ensures ∙ simp (le-ltb _ _ c.if-x-gt0.false)
