use borrow.Author.Rules.{rules}
use mathlib.Core.Path.{refl, sym, ◌∙◌}
use native.Mathlib.Omega.{arith}
use native.Mathlib.Nat.{sub-zero}
use Rattle.enumeration_rows.proofs.Laws.{rows_step, rows_end}
use Rattle.enumeration_rows.proofs.inner.add_rows.Goals as goal

pub rows_at-first-requires : goal.rows_at-first-requires
rows_at-first-requires c = tt

pub loop-k-init : goal.loop-k-init
loop-k-init c = (rw sub-zero, refl)

pub overflow_mul-k : goal.overflow_mul-k
overflow_mul-k c = omega arith

pub overflow_add-first : goal.overflow_add-first
overflow_add-first c = omega arith

pub pair_code-requires : goal.pair_code-requires
pair_code-requires c = omega arith

pub offset_bounds-orders-k : goal.offset_bounds-orders-k
offset_bounds-orders-k c = omega arith

pub add_row-requires : goal.add_row-requires
add_row-requires c = (omega arith, c.requires.1 c.loop-k.k (search rules))

pub loop-k-smaller : goal.loop-k-smaller
loop-k-smaller c = omega arith

pub loop-k-preserved : goal.loop-k-preserved
loop-k-preserved c = (rw (c.add_row.ensures, c.rows_at-first.ensures.at, c.pair_code.ensures) (sym (rows_step c.loop-k.w c.args.orders.now c.args.n c.args.e c.loop-k.k c.loop-k-test.true) ∙ c.loop-k.invariant.0), search rules)

pub returns : goal.returns
returns c = sym (rows_end c.loop-k.w c.args.orders.now c.args.n c.args.e c.loop-k.k c.loop-k-test.false) ∙ c.loop-k.invariant.0
