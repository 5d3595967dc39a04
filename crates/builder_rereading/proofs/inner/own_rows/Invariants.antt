-- The rows left give what the whole reading gives: each turn reads one.
use Prim.Native.Nat.{◌-◌}
use mathlib.Core.Path.{◌≡◌}
use Rattle.builder_rereading.specs.Own.{copied_step, own_from}
use Rattle.builder_rereading.proofs.inner.own_rows.Given as goal

abbrev pub invariant-loop-e : goal.invariant-loop-e
invariant-loop-e l = own_from (l.elements - l.e) (copied_step l.w l.n) l.n l.room l.elements l.e l.count l.t ≡ own_from l.elements (copied_step l.w l.n) l.n l.room l.elements 0 1 l.initial.t
