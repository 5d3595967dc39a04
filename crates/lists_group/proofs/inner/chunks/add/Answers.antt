use Rattle.lists.proofs.Passes.{writing, written}
use Rattle.lists_group.proofs.Passes.{adds, add_fits}
use borrow.Author.Rules.{rules}
use native.Mathlib.Omega.{arith}
use Rattle.lists_group.proofs.inner.chunks.add.Goals as goal

pub loop-i-init : goal.loop-i-init
loop-i-init c = writing

pub bounds-digits-i : goal.bounds-digits-i
bounds-digits-i c = omega (arith, c.requires.0)

pub overflow_mul-sums : goal.overflow_mul-sums
overflow_mul-sums c = omega (arith, add_fits (c.args.stride) (c.args.digits.now) (c.loop-i.invariant) (c.requires.1.1) (c.loop-i-test.true))

pub bounds-sums-i : goal.bounds-sums-i
bounds-sums-i c = omega (arith, c.requires.1.0, c.loop-i.invariant.as_long)

pub overflow_add-sums : goal.overflow_add-sums
overflow_add-sums c = omega (arith, add_fits (c.args.stride) (c.args.digits.now) (c.loop-i.invariant) (c.requires.1.1) (c.loop-i-test.true))

pub bounds-sums-i-in-loop-i : goal.bounds-sums-i-in-loop-i
bounds-sums-i-in-loop-i c = omega (arith, c.requires.1.0, c.loop-i.invariant.as_long)

pub loop-i-preserved : goal.loop-i-preserved
loop-i-preserved c = adds (c.args.stride) (c.args.digits.now) (c.loop-i.invariant) (omega (arith, c.requires.1.0, c.loop-i.invariant.as_long, c.loop-i-test.true))

pub shape_of-sums : goal.shape_of-sums
shape_of-sums c = c.loop-i.invariant.as_long

pub returns : goal.returns
returns c = written (c.loop-i.invariant) (search rules)
