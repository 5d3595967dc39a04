use Rattle.egg.proofs.Refusing.{handed_on}
use borrow.Author.Rules.{rules}
use mathlib.Core.Path.{sym, ◌∙◌}
use native.Mathlib.Nat.{sub-zero}
use native.Mathlib.Omega.{arith}
use Rattle.egg.proofs.Laws.{product_small}
use Rattle.builder_rereading.specs.Own.{copied_step}
use Rattle.builder_rereading.proofs.Owning.{own_row_next, own_row_stop, own_row_end}
use Rattle.builder_rereading.proofs.inner.own_row.Goals as goal

pub loop-g-init : goal.loop-g-init
loop-g-init c = rw sub-zero

pub overflow_mul-e : goal.overflow_mul-e
overflow_mul-e c = let a = c.args in
    omega (arith, product_small a.e.0 a.n (search rules) (omega arith))

pub overflow_add-e : goal.overflow_add-e
overflow_add-e c = let a = c.args in
    omega (arith, product_small a.e.0 a.n (search rules) (omega arith))

pub returns-in_err-count : goal.returns-in_err-count
returns-in_err-count c = let a = c.args in
    rw (handed_on c.from_residual.ensures, ← c.in_err-count.was)
    (own_row_stop (copied_step a.w.now a.n) a.n a.room a.elements a.e.0 c.loop-g.g c.loop-g.count c.loop-g.t c.loop-g-test.true c.get-x.ensures c.own_place.ensures c.in_err-count.was ∙ c.loop-g.invariant)

pub loop-g-preserved : goal.loop-g-preserved
loop-g-preserved c = let a = c.args in
    sym (own_row_next (copied_step a.w.now a.n) a.n a.room a.elements a.e.0 c.loop-g.g c.loop-g.count c.loop-g.t c.loop-g-test.true c.get-x.ensures c.own_place.ensures c.in_ok-count.was) ∙ c.loop-g.invariant

pub returns : goal.returns
returns c = let a = c.args in
    own_row_end (copied_step a.w.now a.n) a.n a.room a.elements a.e.0 c.loop-g.g c.loop-g.count c.loop-g.t c.loop-g-test.false ∙ c.loop-g.invariant
