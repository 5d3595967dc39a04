use Prim.Native.Nat.{◌-◌}
use mathlib.Core.Path.{◌≡◌}
use Rattle.enumeration_quick_loops.specs.Loops.{loop_from}
use Rattle.enumeration_quick_loops.proofs.inner.loop_from.Given as goal

abbrev pub invariant-loop-h : goal.invariant-loop-h
invariant-loop-h l = loop_from (l.n - l.h) l.t l.orders l.n l.e.0 l.g.0 l.h ≡ loop_from l.n l.t l.orders l.n l.e.0 l.g.0 0
