use Rattle.lists_group.proofs.Passes.{copying, copies, copied}
use Rattle.egg.proofs.Rooms.{false_true}
use borrow.Author.Rules.{rules}
use native.Mathlib.Omega.{arith}
use Rattle.lists_group.proofs.inner.chunks.copy_below.Goals as goal

pub loop-i-init : goal.loop-i-init
loop-i-init c = copying

pub shape_of-to-then-limit-x : goal.shape_of-to-then-limit-x
shape_of-to-then-limit-x c = c.loop-i.invariant.same.as_long

pub returns-then-limit-x : goal.returns-then-limit-x
returns-then-limit-x c = λ h. absurd (false_true h)

pub bounds-to-i : goal.bounds-to-i
bounds-to-i c = omega (arith, c.requires, c.loop-i.invariant.same.as_long)

pub loop-i-preserved : goal.loop-i-preserved
loop-i-preserved c = copies (c.loop-i.invariant) (omega (arith, c.requires, c.loop-i.invariant.same.as_long)) (search rules)

pub shape_of-to : goal.shape_of-to
shape_of-to c = c.loop-i.invariant.same.as_long

pub returns : goal.returns
returns c = λ h. copied (c.loop-i.invariant) (search rules)
