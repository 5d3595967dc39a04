use mathlib.Core.Path.{refl, ◌∙◌}
use native.Mathlib.Omega.{arith}
use Rattle.enumeration_wake.proofs.WakeLaws.{pos}
use Rattle.enumeration_run.proofs.RunLaws.{advanced_generator}
use Rattle.enumeration_quick_run.proofs.SweepLaws.{sweep_done, sweep_paused, sweep_refused, sweep_turn}
use Rattle.enumeration_quick_run.proofs.inner.sweep.Goals as goal

pub loop-at-init : goal.loop-at-init
loop-at-init c = (refl, (refl, c.requires.1))

pub shape_of-t-then-left-eq0 : goal.shape_of-t-then-left-eq0
shape_of-t-then-left-eq0 c = c.loop-at.invariant.1.0

pub returns-then-left-eq0 : goal.returns-then-left-eq0
returns-then-left-eq0 c = sweep_paused (c.args.n) (c.args.orders.now) (c.args.room) (c.loop-at.at) (c.loop-at.t) (c.loop-at.left) (c.loop-at-test.true) (c.if-left-eq0.true) ∙ c.loop-at.invariant.0

pub sweep_place-requires : goal.sweep_place-requires
sweep_place-requires c = (c.requires.0, omega arith)

pub shape_of-t-in-Err : goal.shape_of-t-in-Err
shape_of-t-in-Err c = c.sweep_place.auto.t ∙ c.loop-at.invariant.1.0

pub returns-in-Err : goal.returns-in-Err
returns-in-Err c = sweep_refused (c.args.n) (c.args.orders.now) (c.args.room) (c.loop-at.at) (c.loop-at.t) (c.loop-at-test.true) (c.sweep_place.ensures) (c.loop-at.left) (c.if-left-eq0.false) (c.in-Err.is) ∙ c.loop-at.invariant.0

pub advance-at-requires : goal.advance-at-requires
advance-at-requires c = (c.loop-at.invariant.1.1, omega arith)

pub overflow_sub-left : goal.overflow_sub-left
overflow_sub-left c = pos (c.loop-at.left) (c.if-left-eq0.false)

pub loop-at-smaller : goal.loop-at-smaller
loop-at-smaller c = omega (arith, pos (c.loop-at.left) (c.if-left-eq0.false))

pub loop-at-preserved : goal.loop-at-preserved
loop-at-preserved c = (
  sweep_turn (c.args.n) (c.args.orders.now) (c.args.room) (c.loop-at.at) (c.loop-at.t) (c.loop-at-test.true) (c.sweep_place.ensures) (c.loop-at.left) (c.if-left-eq0.false) (c.in-Ok.is) (c.advance-at.ensures) ∙ c.loop-at.invariant.0,
  (c.sweep_place.auto.t ∙ c.loop-at.invariant.1.0, rw (c.advance-at.ensures) (advanced_generator (c.args.n) (c.loop-at.at) _ (c.loop-at.invariant.1.1))),
)

pub shape_of-t : goal.shape_of-t
shape_of-t c = c.loop-at.invariant.1.0

pub returns : goal.returns
returns c = sweep_done (c.args.n) (c.args.orders.now) (c.args.room) (c.loop-at.at) (c.loop-at.t) (c.loop-at.left) (c.loop-at-test.false) ∙ c.loop-at.invariant.0
