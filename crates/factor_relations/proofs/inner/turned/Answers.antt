use Prim.Native.Nat.{◌+◌, ◌-◌}
use mathlib.Core.Path.{◌≡◌, ◌∙◌}
use native.Mathlib.Omega.{arith}
use Rattle.egg.proofs.Refusing.{handed_on}
use Rattle.factor_relations.proofs.Relations.{turned_end, turned_first, turned_second, turned_more}
use Rattle.factor_relations.proofs.inner.turned.Goals as goal

pub loop-init : goal.loop-init
loop-init c = let d : c.args.times - 0 ≡ c.args.times = omega arith in rw d

pub returns-in_err-y : goal.returns-in_err-y
returns-in_err-y c = let a = c.args in handed_on c.from_residual.ensures ∙ turned_first a.s.now a.n a.count c.loop.x.0 a.a.0 a.b.0 {left = a.times - c.loop.counter} {fewer = a.times - (c.loop.counter + 1)} (omega (arith, c.loop-test.true)) c.next.ensures c.in_err-y.was ∙ c.loop.invariant

pub returns-in_err-x : goal.returns-in_err-x
returns-in_err-x c = let a = c.args in handed_on c.from_residual-in_err-x.ensures ∙ turned_second a.s.now a.n a.count c.loop.x.0 a.a.0 a.b.0 {left = a.times - c.loop.counter} {fewer = a.times - (c.loop.counter + 1)} (omega (arith, c.loop-test.true)) c.next.ensures c.in_ok-y.was c.next-in-loop.ensures c.in_err-x.was ∙ c.loop.invariant

pub loop-preserved : goal.loop-preserved
loop-preserved c = let a = c.args in turned_more a.s.now a.n a.count c.loop.x.0 a.a.0 a.b.0 {left = a.times - c.loop.counter} {fewer = a.times - (c.loop.counter + 1)} (omega (arith, c.loop-test.true)) c.next.ensures c.in_ok-y.was c.next-in-loop.ensures c.in_ok-x.was ∙ c.loop.invariant

pub returns : goal.returns
returns c = let a = c.args in turned_end a.s.now a.n a.count c.loop.x.0 a.a.0 a.b.0 {left = a.times - c.loop.counter} (omega (arith, c.loop-test.false)) ∙ c.loop.invariant
