use mathlib.Core.Path.{refl, ◌∙◌}
use native.Mathlib.Omega.{arith}
use native.Mathlib.Nat.{sub-zero}
use borrow.Author.Rules.{rules}
use Rattle.egg.specs.Table.{step_of}
use Rattle.image_writing.proofs.WriteLaws.{place_small, row_next, row_end}
use Rattle.image_writing.proofs.inner.put_row.Goals as goal

pub loop-g-init : goal.loop-g-init
loop-g-init c = (refl, search rules, rw sub-zero)

pub overflow_mul-at : goal.overflow_mul-at
overflow_mul-at c = omega (arith, place_small {n = c.args.n} (omega arith) c.requires)

pub overflow_add-at : goal.overflow_add-at
overflow_add-at c = omega (arith, place_small {n = c.args.n} (omega arith) c.requires)

pub overflow_mul-at-in-loop-g : goal.overflow_mul-at-in-loop-g
overflow_mul-at-in-loop-g c = omega (arith, place_small {n = c.args.n} (omega arith) c.requires)

pub overflow_add-at-in-loop-g : goal.overflow_add-at-in-loop-g
overflow_add-at-in-loop-g c = omega (arith, place_small {n = c.args.n} (omega arith) c.requires)

pub put_half-requires : goal.put_half-requires
put_half-requires c = omega (arith, place_small {n = c.args.n} (omega arith) c.requires)

pub loop-g-preserved : goal.loop-g-preserved
loop-g-preserved c = (c.put_half.auto.out ∙ c.loop-g.invariant.0, search rules, rw c.put_half.ensures (row_next (step_of c.args.s.now c.args.n) c.args.n c.args.e.0 c.loop-g.out c.loop-g.g c.loop-g-test.true c.step.ensures ∙ c.loop-g.invariant.2))

pub shape_of-out : goal.shape_of-out
shape_of-out c = c.loop-g.invariant.0

pub returns : goal.returns
returns c = row_end (step_of c.args.s.now c.args.n) c.args.n c.args.e.0 c.loop-g.out c.loop-g.g c.loop-g-test.false ∙ c.loop-g.invariant.2
