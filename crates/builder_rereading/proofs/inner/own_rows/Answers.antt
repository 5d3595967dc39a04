use Rattle.egg.proofs.Refusing.{handed_on}
use mathlib.Core.Path.{sym, ◌∙◌}
use native.Mathlib.Nat.{sub-zero}
use Rattle.builder_rereading.specs.Own.{copied_step}
use Rattle.builder_rereading.proofs.Owning.{own_done, own_next, own_stop, own_end}
use Rattle.builder_rereading.proofs.inner.own_rows.Goals as goal

pub loop-e-init : goal.loop-e-init
loop-e-init c = rw sub-zero

pub returns-then-count-e : goal.returns-then-count-e
returns-then-count-e c = let a = c.args in
    own_done (copied_step a.w.now a.n) a.n a.room a.elements c.loop-e.e c.loop-e.count c.loop-e.t c.loop-e-test.true c.if-count-e.true ∙ c.loop-e.invariant

pub returns-in_err-count : goal.returns-in_err-count
returns-in_err-count c = let a = c.args in
    rw (handed_on c.from_residual.ensures, ← c.in_err-count.was)
    (own_stop (copied_step a.w.now a.n) a.n a.room a.elements c.loop-e.e c.loop-e.count c.loop-e.t c.loop-e-test.true c.if-count-e.false c.own_row.ensures c.in_err-count.was ∙ c.loop-e.invariant)

pub loop-e-preserved : goal.loop-e-preserved
loop-e-preserved c = let a = c.args in
    sym (own_next (copied_step a.w.now a.n) a.n a.room a.elements c.loop-e.e c.loop-e.count c.loop-e.t c.loop-e-test.true c.if-count-e.false c.own_row.ensures c.in_ok-count.was) ∙ c.loop-e.invariant

pub returns : goal.returns
returns c = let a = c.args in
    own_end (copied_step a.w.now a.n) a.n a.room a.elements c.loop-e.e c.loop-e.count c.loop-e.t c.loop-e-test.false ∙ c.loop-e.invariant
