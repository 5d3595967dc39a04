use Rattle.lists.proofs.Passes.{writing, writes, copied}
use borrow.Author.Rules.{rules}
use native.Mathlib.Omega.{arith}
use Rattle.lists.proofs.inner.copy_front.Goals as goal

pub loop-i-init : goal.loop-i-init
loop-i-init c = writing

pub bounds-from-i : goal.bounds-from-i
bounds-from-i c = omega (arith, c.loop-i.invariant.as_long, c.requires)

pub loop-i-preserved : goal.loop-i-preserved
loop-i-preserved c = writes (c.loop-i.invariant) (search rules) (search rules)

pub shape_of-out : goal.shape_of-out
shape_of-out c = c.loop-i.invariant.as_long

pub returns : goal.returns
returns c = copied c.args.from.now (c.loop-i.invariant) (c.requires) (search rules)
