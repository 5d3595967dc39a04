-- 17 in the recorded length, then one law for each answer of `add_successor`.
use Rattle.builder.proofs.Calls.{grow_altered, grow_refused, grow_new}
use Rattle.builder.proofs.inner.grow.Goals as goal

pub returns-then-over_long : goal.returns-then-over_long
returns-then-over_long c = let a = c.args in
    grow_altered a.t.now a.f a.e a.g c.over_long.ensures c.if-over_long.true c.clear.ensures c.no_factor.ensures

pub returns-in-Err : goal.returns-in-Err
returns-in-Err c = let a = c.args in
    grow_refused a.t.now a.f a.e a.g c.over_long.ensures c.if-over_long.false c.add_successor.ensures c.in-Err.is c.clear-in-Err.ensures c.no_factor-in-Err.ensures

pub returns-in-Ok : goal.returns-in-Ok
returns-in-Ok c = let a = c.args in
    grow_new a.t.now a.f a.e a.g c.over_long.ensures c.if-over_long.false c.add_successor.ensures c.in-Ok.is
