use native.Mathlib.Omega.{arith}
use borrow.Author.Rules.{rules}
use Rattle.lists.proofs.Passes.{writing, writes, written}
use Rattle.lists_powers.proofs.inner.factors.Goals as goal

pub loop-i-init : goal.loop-i-init
loop-i-init c = writing

pub bounds-ks-i : goal.bounds-ks-i
bounds-ks-i c = omega (arith, c.requires.1.0)

pub bounds-ms-i : goal.bounds-ms-i
bounds-ms-i c = omega (arith, c.requires.1.1, c.loop-i.invariant.as_long)

pub loop-i-preserved : goal.loop-i-preserved
loop-i-preserved c = writes (c.loop-i.invariant) (omega (arith, c.requires.1.1, c.loop-i.invariant.as_long)) (c.chosen.ensures)

pub shape_of-ms : goal.shape_of-ms
shape_of-ms c = c.loop-i.invariant.as_long

pub returns : goal.returns
returns c = written (c.loop-i.invariant) (search rules)
