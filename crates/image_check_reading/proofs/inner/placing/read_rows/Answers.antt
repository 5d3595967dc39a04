use Rattle.egg.proofs.Refusing.{handed_on}
use Rattle.image_cells.specs.Cells.{cells, halves}
use Prim.Native.Nat.{ℕ}
use mathlib.Core.Path.{refl, sym, ap, ◌∙◌}
use native.Mathlib.Omega.{arith}
use borrow.Author.Rules.{rules}
use Rattle.build_reading.specs.Reading.{read_from, composed_at}
use Rattle.build_reading.proofs.Readings.{rows_done, rows_next, rows_stop, rows_end}
use Rattle.image_check_reading.proofs.inner.placing.read_rows.Goals as goal

pub loop-e-init : goal.loop-e-init
loop-e-init c = let a = c.args in (refl, search rules, ap (λ (k : ℕ). read_from k (composed_at (halves a.rows.now) a.n) a.n a.room 0 1 (cells a.t.now)) (omega arith))

pub shape_of-t-then-count-e : goal.shape_of-t-then-count-e
shape_of-t-then-count-e c = c.loop-e.invariant.0

pub returns-then-count-e : goal.returns-then-count-e
returns-then-count-e c = let a = c.args in rows_done (composed_at (halves a.rows.now) a.n) a.n a.room c.loop-e.e c.loop-e.count (cells c.loop-e.t) c.loop-e-test.true c.if-count-e.true ∙ c.loop-e.invariant.2

pub returns-in_err-count : goal.returns-in_err-count
returns-in_err-count c = let a = c.args in
    rw (handed_on c.from_residual.ensures, ← c.in_err-count.was) (rows_stop (composed_at (halves a.rows.now) a.n) a.n a.room c.loop-e.e c.loop-e.count (cells c.loop-e.t) c.loop-e-test.true c.if-count-e.false c.read_row.ensures c.in_err-count.was ∙ c.loop-e.invariant.2)

pub loop-e-preserved : goal.loop-e-preserved
loop-e-preserved c = let a = c.args in (c.read_row.auto.t ∙ c.loop-e.invariant.0, search rules, sym (rows_next (composed_at (halves a.rows.now) a.n) a.n a.room c.loop-e.e c.loop-e.count (cells c.loop-e.t) c.loop-e-test.true c.if-count-e.false c.read_row.ensures c.in_ok-count.was) ∙ c.loop-e.invariant.2)

pub shape_of-t : goal.shape_of-t
shape_of-t c = c.loop-e.invariant.0

pub returns : goal.returns
returns c = let a = c.args in rows_end (composed_at (halves a.rows.now) a.n) a.n a.room c.loop-e.e c.loop-e.count (cells c.loop-e.t) c.loop-e-test.false ∙ c.loop-e.invariant.2
