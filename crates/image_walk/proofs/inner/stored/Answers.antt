-- The place of an element and a generator in the rows.
use native.Mathlib.Omega.{arith}
use Rattle.egg.proofs.Laws.{product_small}
use borrow.Author.Rules.{rules}
use Rattle.image_walk.proofs.inner.stored.Goals as goal

pub overflow_mul-e : goal.overflow_mul-e
overflow_mul-e c = omega (arith, product_small c.args.e.0 c.args.n (search rules) (omega arith))

pub overflow_add-e : goal.overflow_add-e
overflow_add-e c = omega (arith, product_small c.args.e.0 c.args.n (search rules) (omega arith))
