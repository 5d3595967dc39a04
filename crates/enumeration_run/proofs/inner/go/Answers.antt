use mathlib.Core.Path.{refl, ◌∙◌}
use native.Mathlib.Omega.{arith}
use Rattle.enumeration_wake.proofs.WakeLaws.{pos}
use Rattle.enumeration_run.proofs.RunLaws.{runs_done, runs_paused, runs_refused, runs_turn, advanced_generator}
use Rattle.enumeration_run.proofs.inner.go.Goals as goal

pub loop-at-init : goal.loop-at-init
loop-at-init c = (refl, (refl, (refl, c.requires.1)))

pub shape_of-t-then-left-eq0 : goal.shape_of-t-then-left-eq0
shape_of-t-then-left-eq0 c = c.loop-at.invariant.1.0

pub shape_of-w-then-left-eq0 : goal.shape_of-w-then-left-eq0
shape_of-w-then-left-eq0 c = c.loop-at.invariant.1.1.0

pub returns-then-left-eq0 : goal.returns-then-left-eq0
returns-then-left-eq0 c = runs_paused c.args.n c.args.orders.now c.args.room c.loop-at.at c.loop-at.t c.loop-at.w c.loop-at.left c.loop-at-test.true c.if-left-eq0.true ∙ c.loop-at.invariant.0

pub visit_place-requires : goal.visit_place-requires
visit_place-requires c = c.requires.0

pub shape_of-t-in-Err : goal.shape_of-t-in-Err
shape_of-t-in-Err c = c.visit_place.auto.t ∙ c.loop-at.invariant.1.0

pub shape_of-w-in-Err : goal.shape_of-w-in-Err
shape_of-w-in-Err c = c.visit_place.auto.w ∙ c.loop-at.invariant.1.1.0

pub returns-in-Err : goal.returns-in-Err
returns-in-Err c = runs_refused c.args.n c.args.orders.now c.args.room c.loop-at.at c.loop-at.t c.loop-at.w c.loop-at.left c.loop-at-test.true c.if-left-eq0.false c.visit_place.ensures c.in-Err.is ∙ c.loop-at.invariant.0

pub advance-at-requires : goal.advance-at-requires
advance-at-requires c = (c.loop-at.invariant.1.1.1, omega arith)

pub overflow_sub-left : goal.overflow_sub-left
overflow_sub-left c = pos c.loop-at.left c.if-left-eq0.false

pub loop-at-smaller : goal.loop-at-smaller
loop-at-smaller c = omega (arith, pos c.loop-at.left c.if-left-eq0.false)

pub loop-at-preserved : goal.loop-at-preserved
loop-at-preserved c = (runs_turn c.args.n c.args.orders.now c.args.room c.loop-at.at c.loop-at.t c.loop-at.w c.loop-at.left c.loop-at-test.true c.if-left-eq0.false c.visit_place.ensures c.in-Ok.is c.advance-at.ensures ∙ c.loop-at.invariant.0, (c.visit_place.auto.t ∙ c.loop-at.invariant.1.0, (c.visit_place.auto.w ∙ c.loop-at.invariant.1.1.0, rw c.advance-at.ensures (advanced_generator c.args.n c.loop-at.at _ c.loop-at.invariant.1.1.1))))

pub shape_of-t : goal.shape_of-t
shape_of-t c = c.loop-at.invariant.1.0

pub shape_of-w : goal.shape_of-w
shape_of-w c = c.loop-at.invariant.1.1.0

pub returns : goal.returns
returns c = runs_done c.args.n c.args.orders.now c.args.room c.loop-at.at c.loop-at.t c.loop-at.w c.loop-at.left c.loop-at-test.false ∙ c.loop-at.invariant.0
