use native.Mathlib.Omega.{arith}
use borrow.Author.Rules.{rules}
use Rattle.lists.proofs.Passes.{writing, written}
use Rattle.lists_powers.proofs.Places.{keeps}
use Rattle.lists_powers.proofs.inner.keep.Goals as goal

pub loop-i-init : goal.loop-i-init
loop-i-init c = writing

pub bounds-ys-i : goal.bounds-ys-i
bounds-ys-i c = omega (arith, c.requires.1.0)

pub bounds-xs-i : goal.bounds-xs-i
bounds-xs-i c = omega (arith, c.requires.1.1, c.loop-i.invariant.as_long)

pub bounds-xs-i-in-loop-i : goal.bounds-xs-i-in-loop-i
bounds-xs-i-in-loop-i c = omega (arith, c.requires.1.1, c.loop-i.invariant.as_long)

pub loop-i-preserved : goal.loop-i-preserved
loop-i-preserved c = keeps c.args.ks.now c.args.j c.args.ys.now (c.loop-i.invariant) (omega (arith, c.requires.1.1, c.loop-i.invariant.as_long)) (c.chosen-x.ensures) (c.chosen.ensures)

pub shape_of-xs : goal.shape_of-xs
shape_of-xs c = c.loop-i.invariant.as_long

pub returns : goal.returns
returns c = written (c.loop-i.invariant) (search rules)
