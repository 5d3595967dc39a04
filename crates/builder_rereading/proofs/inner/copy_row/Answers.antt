use borrow.Author.Rules.{rules}
use native.Mathlib.Nat.{sub-zero, sub-eq-zero_of_le}
use native.Mathlib.Omega.{arith}
use Rattle.egg.proofs.Laws.{product_small}
use Rattle.egg.proofs.Scans.{left_suc}
use Rattle.builder_rereading.specs.Own.{copied_row}
use Rattle.builder_rereading.proofs.inner.copy_row.Goals as goal

pub loop-g-init : goal.loop-g-init
loop-g-init c = rw sub-zero

pub overflow_mul-e : goal.overflow_mul-e
overflow_mul-e c = let a = c.args in omega (arith, product_small a.e.0 a.n (search rules) (omega arith))

pub overflow_add-e : goal.overflow_add-e
overflow_add-e c = let a = c.args in omega (arith, product_small a.e.0 a.n (search rules) (omega arith))

pub loop-g-preserved : goal.loop-g-preserved
unfolding copied_row
loop-g-preserved c = rw (c.keep.ensures, c.get-x.ensures, c.successor_at-at.ensures.at) (rw (left_suc c.loop-g-test.true) at c.loop-g.invariant)

pub returns : goal.returns
unfolding copied_row
returns c = rw (sub-eq-zero_of_le c.loop-g-test.false) at c.loop-g.invariant
