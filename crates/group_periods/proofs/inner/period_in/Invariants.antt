-- The powers left to look at give the period that all of them give.
use Rattle.factor_questions.specs.Walks.{compose_in}
use Rattle.group_periods.proofs.Periods.{Turning}
use Rattle.group_periods.proofs.inner.period_in.Given as goal

abbrev pub invariant-loop-i : goal.invariant-loop-i
invariant-loop-i l = Turning (compose_in l.s l.n l.count) l.count l.a.0 l.i l.x.0
