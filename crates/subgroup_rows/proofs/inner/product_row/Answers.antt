use Rattle.egg.proofs.Refusing.{handed_on}
use Prim.Native.Nat.{ℕ}
use mathlib.Core.Path.{refl, sym, ap, ◌∙◌}
use native.Mathlib.Omega.{arith}
use borrow.Author.Rules.{rules}
use Rattle.group_handles.specs.Handles.{handles}
use Rattle.group_digits.specs.Digits.{composes}
use Rattle.build_numbering.specs.Renumber.{map_row}
use Rattle.build_numbering.proofs.PlaceLaws.{map_source_stop, map_row_next, map_row_stop, map_row_end, asked}
use Rattle.subgroup_rows.specs.Rows.{product_by}
use Rattle.subgroup_rows.proofs.inner.product_row.Goals as goal

pub loop-g-init : goal.loop-g-init
loop-g-init c = let a = c.args in (refl, refl, refl, search rules, ap (λ (k : ℕ). map_row k (product_by a.from.now (handles a.over) a.gens.now) a.n a.room a.e.0 0 a.first a.t.now a.inn.now a.outw.now) (omega arith))

pub compose_digits-requires : goal.compose_digits-requires
compose_digits-requires c = c.requires

pub shape_of-t-in_err-x : goal.shape_of-t-in_err-x
shape_of-t-in_err-x c = c.loop-g.invariant.0

pub shape_of-inn-in_err-x : goal.shape_of-inn-in_err-x
shape_of-inn-in_err-x c = c.loop-g.invariant.1

pub shape_of-outw-in_err-x : goal.shape_of-outw-in_err-x
shape_of-outw-in_err-x c = c.loop-g.invariant.2

pub returns-in_err-x : goal.returns-in_err-x
returns-in_err-x c = let a = c.args in rw (handed_on c.from_residual.ensures) (map_source_stop (product_by a.from.now (handles a.over) a.gens.now) a.n a.room a.e.0 c.loop-g.g c.loop-g.count c.loop-g.t c.loop-g.inn c.loop-g.outw c.loop-g-test.true (asked (λ x y. composes a.from.now (handles a.over) x y) c.get-at.ensures c.get-by.ensures c.compose_digits.ensures) c.in_err-x.was ∙ c.loop-g.invariant.4)

pub shape_of-t-in_err-count : goal.shape_of-t-in_err-count
shape_of-t-in_err-count c = c.place.auto.t ∙ c.loop-g.invariant.0

pub shape_of-inn-in_err-count : goal.shape_of-inn-in_err-count
shape_of-inn-in_err-count c = c.place.auto.inn ∙ c.loop-g.invariant.1

pub shape_of-outw-in_err-count : goal.shape_of-outw-in_err-count
shape_of-outw-in_err-count c = c.place.auto.outw ∙ c.loop-g.invariant.2

pub returns-in_err-count : goal.returns-in_err-count
returns-in_err-count c = let a = c.args in rw (handed_on c.from_residual-in_err-count.ensures, ← c.in_err-count.was) (map_row_stop (product_by a.from.now (handles a.over) a.gens.now) a.n a.room a.e.0 c.loop-g.g c.loop-g.count c.loop-g.t c.loop-g.inn c.loop-g.outw c.loop-g-test.true (asked (λ x y. composes a.from.now (handles a.over) x y) c.get-at.ensures c.get-by.ensures c.compose_digits.ensures) c.in_ok-x.was c.place.ensures c.in_err-count.was ∙ c.loop-g.invariant.4)

pub loop-g-preserved : goal.loop-g-preserved
loop-g-preserved c = let a = c.args in (c.place.auto.t ∙ c.loop-g.invariant.0, c.place.auto.inn ∙ c.loop-g.invariant.1, c.place.auto.outw ∙ c.loop-g.invariant.2, search rules, sym (map_row_next (product_by a.from.now (handles a.over) a.gens.now) a.n a.room a.e.0 c.loop-g.g c.loop-g.count c.loop-g.t c.loop-g.inn c.loop-g.outw c.loop-g-test.true (asked (λ x y. composes a.from.now (handles a.over) x y) c.get-at.ensures c.get-by.ensures c.compose_digits.ensures) c.in_ok-x.was c.place.ensures c.in_ok-count.was) ∙ c.loop-g.invariant.4)

pub shape_of-t : goal.shape_of-t
shape_of-t c = c.loop-g.invariant.0

pub shape_of-inn : goal.shape_of-inn
shape_of-inn c = c.loop-g.invariant.1

pub shape_of-outw : goal.shape_of-outw
shape_of-outw c = c.loop-g.invariant.2

pub returns : goal.returns
returns c = let a = c.args in map_row_end (product_by a.from.now (handles a.over) a.gens.now) a.n a.room a.e.0 c.loop-g.g c.loop-g.count c.loop-g.t c.loop-g.inn c.loop-g.outw c.loop-g-test.false ∙ c.loop-g.invariant.4
