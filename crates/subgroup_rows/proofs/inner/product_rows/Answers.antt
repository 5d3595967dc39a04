use Rattle.egg.proofs.Refusing.{handed_on}
use Prim.Native.Nat.{ℕ}
use mathlib.Core.Path.{refl, sym, ap, ◌∙◌}
use native.Mathlib.Omega.{arith}
use borrow.Author.Rules.{rules}
use Rattle.group_handles.specs.Handles.{handles}
use Rattle.subgroup_rows.specs.Rows.{product_by}
use Rattle.build_numbering.specs.Renumber.{map_rows}
use Rattle.build_numbering.proofs.PlaceLaws.{map_rows_done, map_rows_next, map_rows_stop, map_rows_end}
use Rattle.subgroup_rows.proofs.inner.product_rows.Goals as goal

pub loop-e-init : goal.loop-e-init
loop-e-init c = let a = c.args in (refl, refl, refl, search rules, ap (λ (k : ℕ). map_rows k (product_by a.from.now (handles a.over) a.gens.now) a.n a.room 0 1 a.t.now a.inn.now a.outw.now) (omega arith))

pub shape_of-t-then-count-e : goal.shape_of-t-then-count-e
shape_of-t-then-count-e c = c.loop-e.invariant.0

pub shape_of-inn-then-count-e : goal.shape_of-inn-then-count-e
shape_of-inn-then-count-e c = c.loop-e.invariant.1

pub shape_of-outw-then-count-e : goal.shape_of-outw-then-count-e
shape_of-outw-then-count-e c = c.loop-e.invariant.2

pub returns-then-count-e : goal.returns-then-count-e
returns-then-count-e c = let a = c.args in map_rows_done (product_by a.from.now (handles a.over) a.gens.now) a.n a.room c.loop-e.e c.loop-e.count c.loop-e.t c.loop-e.inn c.loop-e.outw c.loop-e-test.true c.if-count-e.true ∙ c.loop-e.invariant.4

pub product_row-requires : goal.product_row-requires
product_row-requires c = c.requires

pub shape_of-t-in_err-count : goal.shape_of-t-in_err-count
shape_of-t-in_err-count c = c.product_row.auto.t ∙ c.loop-e.invariant.0

pub shape_of-inn-in_err-count : goal.shape_of-inn-in_err-count
shape_of-inn-in_err-count c = c.product_row.auto.inn ∙ c.loop-e.invariant.1

pub shape_of-outw-in_err-count : goal.shape_of-outw-in_err-count
shape_of-outw-in_err-count c = c.product_row.auto.outw ∙ c.loop-e.invariant.2

pub returns-in_err-count : goal.returns-in_err-count
returns-in_err-count c = let a = c.args in rw (handed_on c.from_residual.ensures, ← c.in_err-count.was) (map_rows_stop (product_by a.from.now (handles a.over) a.gens.now) a.n a.room c.loop-e.e c.loop-e.count c.loop-e.t c.loop-e.inn c.loop-e.outw c.loop-e-test.true c.if-count-e.false c.product_row.ensures c.in_err-count.was ∙ c.loop-e.invariant.4)

pub loop-e-preserved : goal.loop-e-preserved
loop-e-preserved c = let a = c.args in (c.product_row.auto.t ∙ c.loop-e.invariant.0, c.product_row.auto.inn ∙ c.loop-e.invariant.1, c.product_row.auto.outw ∙ c.loop-e.invariant.2, search rules, sym (map_rows_next (product_by a.from.now (handles a.over) a.gens.now) a.n a.room c.loop-e.e c.loop-e.count c.loop-e.t c.loop-e.inn c.loop-e.outw c.loop-e-test.true c.if-count-e.false c.product_row.ensures c.in_ok-count.was) ∙ c.loop-e.invariant.4)

pub shape_of-t : goal.shape_of-t
shape_of-t c = c.loop-e.invariant.0

pub shape_of-inn : goal.shape_of-inn
shape_of-inn c = c.loop-e.invariant.1

pub shape_of-outw : goal.shape_of-outw
shape_of-outw c = c.loop-e.invariant.2

pub returns : goal.returns
returns c = let a = c.args in map_rows_end (product_by a.from.now (handles a.over) a.gens.now) a.n a.room c.loop-e.e c.loop-e.count c.loop-e.t c.loop-e.inn c.loop-e.outw c.loop-e-test.false ∙ c.loop-e.invariant.4
