use Rattle.egg.proofs.Refusing.{handed_on}
use mathlib.Core.Path.{◌∙◌}
use Rattle.factor_questions.specs.Walks.{compose_in}
use Rattle.group_periods.proofs.Periods.{turning, turn_none, turn_here, turn_stop, turn_on}
use Rattle.group_periods.proofs.inner.period_in.Goals as goal

pub loop-i-init : goal.loop-i-init
loop-i-init c = turning (compose_in c.args.s.now c.args.n c.args.count) c.args.count c.args.a.0

pub returns-then-x-eq0 : goal.returns-then-x-eq0
returns-then-x-eq0 c = turn_here c.loop-i.invariant c.loop-i-test.true c.if-x-eq0.true

pub returns-in_err-x : goal.returns-in_err-x
returns-in_err-x c = handed_on c.from_residual.ensures ∙ turn_stop c.loop-i.invariant c.loop-i-test.true c.if-x-eq0.false c.compose_elements.ensures c.in_err-x.was

pub loop-i-preserved : goal.loop-i-preserved
loop-i-preserved c = turn_on c.loop-i.invariant c.loop-i-test.true c.if-x-eq0.false c.compose_elements.ensures c.in_ok-x.was

pub returns : goal.returns
returns c = turn_none c.loop-i.invariant c.loop-i-test.false
