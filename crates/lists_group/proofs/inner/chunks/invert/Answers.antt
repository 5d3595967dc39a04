use Rattle.lists_group.proofs.Passes.{inverting, inverse_fits, inverses, inverted}
use Rattle.egg.proofs.Laws.{got}
use Rattle.egg.proofs.Rooms.{false_true}
use borrow.Author.Rules.{rules}
use native.Mathlib.Omega.{arith}
use Rattle.lists_group.proofs.inner.chunks.invert.Goals as goal

pub loop-i-init : goal.loop-i-init
loop-i-init c = inverting

pub bounds-rest-i : goal.bounds-rest-i
bounds-rest-i c = omega (arith, c.requires.1.0, c.loop-i.invariant.rest_of.as_long)

pub nonzero_rem-x : goal.nonzero_rem-x
nonzero_rem-x c = omega (arith, c.requires.0.0)

pub shape_of-rest-then-n-inverse : goal.shape_of-rest-then-n-inverse
shape_of-rest-then-n-inverse c = c.loop-i.invariant.rest_of.as_long

pub shape_of-sums-then-n-inverse : goal.shape_of-sums-then-n-inverse
shape_of-sums-then-n-inverse c = c.loop-i.invariant.sum.as_long

pub returns-then-n-inverse : goal.returns-then-n-inverse
returns-then-n-inverse c = λ h. absurd (false_true h)

pub nonzero_div-rest : goal.nonzero_div-rest
nonzero_div-rest c = omega (arith, c.requires.0.0)

pub bounds-rest-i-in-loop-i : goal.bounds-rest-i-in-loop-i
bounds-rest-i-in-loop-i c = omega (arith, c.requires.1.0, c.loop-i.invariant.rest_of.as_long)

pub overflow_mul-sums : goal.overflow_mul-sums
overflow_mul-sums c = omega (arith, inverse_fits c.loop-i.invariant c.requires.1.1.1 c.loop-i-test.true c.if-n-inverse.false c.requires.0.1)

pub bounds-sums-i : goal.bounds-sums-i
bounds-sums-i c = omega (arith, c.requires.1.1.0, c.loop-i.invariant.sum.as_long)

pub overflow_add-sums : goal.overflow_add-sums
overflow_add-sums c = omega (arith, inverse_fits c.loop-i.invariant c.requires.1.1.1 c.loop-i-test.true c.if-n-inverse.false c.requires.0.1)

pub bounds-sums-i-in-loop-i : goal.bounds-sums-i-in-loop-i
bounds-sums-i-in-loop-i c = omega (arith, c.requires.1.1.0, c.loop-i.invariant.sum.as_long)

pub loop-i-preserved : goal.loop-i-preserved
loop-i-preserved c = inverses c.loop-i.invariant (omega (arith, c.requires.1.0, c.loop-i.invariant.rest_of.as_long, c.loop-i-test.true)) (omega (arith, c.requires.1.1.0, c.loop-i.invariant.sum.as_long, c.loop-i-test.true)) (got c.args.s.now c.get-inverse.ensures c.inverse_at.ensures.at) c.if-n-inverse.false

pub shape_of-rest : goal.shape_of-rest
shape_of-rest c = c.loop-i.invariant.rest_of.as_long

pub shape_of-sums : goal.shape_of-sums
shape_of-sums c = c.loop-i.invariant.sum.as_long

pub returns : goal.returns
returns c = λ h. inverted c.loop-i.invariant (search rules)
