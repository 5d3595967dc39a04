use lib.Dec.{lit<}
use native.Mathlib.Nat.{lt_trans}
use native.Mathlib.Omega.{arith}
use Rattle.egg.proofs.Laws.{product_small}
use Rattle.enumeration_rows.specs.Rows.{work_width, place_at}
use borrow.Author.Rules.{rules}
use Rattle.enumeration_rows.proofs.inner.place_at.Goals as goal

pub overflow_mul-result : goal.overflow_mul-result
overflow_mul-result c = record { fits = lt_trans (product_small _ _ (search rules) (omega arith)) (lit< tt) }

pub overflow_add-result : goal.overflow_add-result
overflow_add-result c = omega (arith, product_small c.args.e.0 c.work_width.result (search rules) (omega arith))

pub returns : goal.returns
unfolding work_width place_at
returns c = record { at = rw c.work_width.ensures.at; small = omega (arith, product_small c.args.e.0 c.work_width.result (search rules) (omega arith)) }
