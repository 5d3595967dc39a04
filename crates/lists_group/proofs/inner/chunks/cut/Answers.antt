use Rattle.lists_group.proofs.Passes.{cutting, cuts, is_cut}
use borrow.Author.Rules.{rules}
use native.Mathlib.Omega.{arith}
use Rattle.lists_group.proofs.inner.chunks.cut.Goals as goal

pub loop-i-init : goal.loop-i-init
loop-i-init c = cutting

pub bounds-rest-i : goal.bounds-rest-i
bounds-rest-i c = omega (arith, c.requires.1.0, c.loop-i.invariant.rest_of.as_long)

pub nonzero_rem-digits : goal.nonzero_rem-digits
nonzero_rem-digits c = omega (arith, c.requires.0)

pub bounds-digits-i : goal.bounds-digits-i
bounds-digits-i c = omega (arith, c.requires.1.1, c.loop-i.invariant.digit.as_long)

pub nonzero_div-rest : goal.nonzero_div-rest
nonzero_div-rest c = omega (arith, c.requires.0)

pub bounds-rest-i-in-loop-i : goal.bounds-rest-i-in-loop-i
bounds-rest-i-in-loop-i c = omega (arith, c.requires.1.0, c.loop-i.invariant.rest_of.as_long)

pub loop-i-preserved : goal.loop-i-preserved
loop-i-preserved c = cuts (c.loop-i.invariant) (omega (arith, c.requires.1.0, c.loop-i.invariant.rest_of.as_long)) (omega (arith, c.requires.1.1, c.loop-i.invariant.digit.as_long))

pub shape_of-rest : goal.shape_of-rest
shape_of-rest c = c.loop-i.invariant.rest_of.as_long

pub shape_of-digits : goal.shape_of-digits
shape_of-digits c = c.loop-i.invariant.digit.as_long

pub returns : goal.returns
returns c = is_cut (c.loop-i.invariant) (search rules)
