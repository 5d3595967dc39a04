use Prim.Native.Nat.{◌-◌}
use mathlib.Core.Path.{◌≡◌}
use lib.ListN.{length}
use Rattle.enumeration_rows.specs.Rows.{add_rows_from}
use Rattle.enumeration_rows.proofs.inner.add_rows.Given as goal

abbrev pub invariant-loop-k : goal.invariant-loop-k
invariant-loop-k l = (add_rows_from (length l.orders - l.k) l.w l.orders l.n l.e l.k ≡ add_rows_from (length l.orders) l.initial.w l.orders l.n l.e 0) × (length l.w ≡ length l.initial.w)
