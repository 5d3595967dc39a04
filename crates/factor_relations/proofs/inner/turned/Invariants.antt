-- What is left to turn from here ends where the whole ends: each turn takes both steps.
use Prim.Native.Nat.{◌-◌}
use mathlib.Core.Path.{◌≡◌}
use Rattle.factor_relations.specs.Relations.{turned}
use Rattle.factor_relations.proofs.inner.turned.Given as goal

abbrev pub invariant-loop : goal.invariant-loop
invariant-loop l = turned (l.times - l.counter) l.s l.n l.count l.x.0 l.a.0 l.b.0 ≡ turned l.times l.s l.n l.count l.initial.x.0 l.a.0 l.b.0
