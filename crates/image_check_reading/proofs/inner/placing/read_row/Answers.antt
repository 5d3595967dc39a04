use Rattle.egg.proofs.Refusing.{handed_on}
use Rattle.image_cells.specs.Cells.{cells, halves}
use Prim.Native.Nat.{ℕ}
use mathlib.Core.Path.{refl, sym, ap, ◌∙◌}
use native.Mathlib.Omega.{arith}
use borrow.Author.Rules.{rules}
use Rattle.egg.proofs.Laws.{product_small}
use Rattle.build_reading.specs.Reading.{read_row, composed_at}
use Rattle.build_reading.proofs.Readings.{row_next, row_stop, row_end}
use Rattle.image_check_reading.proofs.inner.placing.read_row.Goals as goal

pub loop-g-init : goal.loop-g-init
loop-g-init c = let a = c.args in (refl, search rules, ap (λ (k : ℕ). read_row k (composed_at (halves a.rows.now) a.n) a.n a.room a.e.0 0 a.first (cells a.t.now)) (omega arith))

pub overflow_mul-e : goal.overflow_mul-e
overflow_mul-e c = let a = c.args in omega (arith, product_small a.e.0 a.n (search rules) (omega arith))

pub overflow_add-e : goal.overflow_add-e
overflow_add-e c = let a = c.args in omega (arith, product_small a.e.0 a.n (search rules) (omega arith))

pub returns-in_err-count : goal.returns-in_err-count
returns-in_err-count c = let a = c.args in
    rw (handed_on c.from_residual.ensures, ← c.in_err-count.was) (row_stop (composed_at (halves a.rows.now) a.n) a.n a.room a.e.0 c.loop-g.g c.loop-g.count (cells c.loop-g.t) c.loop-g-test.true c.half-v.ensures c.place.ensures c.in_err-count.was ∙ c.loop-g.invariant.2)

pub loop-g-preserved : goal.loop-g-preserved
loop-g-preserved c = let a = c.args in (c.place.auto.t ∙ c.loop-g.invariant.0, search rules, sym (row_next (composed_at (halves a.rows.now) a.n) a.n a.room a.e.0 c.loop-g.g c.loop-g.count (cells c.loop-g.t) c.loop-g-test.true c.half-v.ensures c.place.ensures c.in_ok-count.was) ∙ c.loop-g.invariant.2)

pub shape_of-t : goal.shape_of-t
shape_of-t c = c.loop-g.invariant.0

pub returns : goal.returns
returns c = let a = c.args in row_end (composed_at (halves a.rows.now) a.n) a.n a.room a.e.0 c.loop-g.g c.loop-g.count (cells c.loop-g.t) c.loop-g-test.false ∙ c.loop-g.invariant.2
