use Rattle.egg.proofs.Laws.{product_small}
use lib.Dec.{lit<}
use native.Mathlib.Nat.{lt_trans}
use Rattle.egg.specs.Table.{start_of}
use native.Mathlib.Omega.{arith}
use borrow.Author.Rules.{rules}
use Rattle.egg.proofs.inner.start.Goals as goal

pub overflow_mul-result : goal.overflow_mul-result
overflow_mul-result c = record { fits = lt_trans (product_small _ _ (search rules) (omega arith)) (lit< tt) }

pub returns : goal.returns
unfolding start_of
returns c = record { at = rw c.width.ensures; small = product_small _ _ (search rules) (omega arith) }
