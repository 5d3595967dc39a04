use Rattle.egg.specs.Pairs.{order_at, orders_right}
use Rattle.egg.specs.Scan.{scan}
use Prim.Native.Nat.{◌-◌, ◌≤◌}
use mathlib.Core.Path.{◌≡◌}
use Rattle.factor_relations.proofs.inner.orders_right.Given as goal

abbrev pub invariant-loop-k : goal.invariant-loop-k
invariant-loop-k l = (l.k ≤ l.count) × (scan (l.count - l.k) (λ i. order_at l.orders i) l.k ≡ orders_right l.orders l.n)
