-- The places left of the row give what the whole row gives: each turn reads one.
use Prim.Native.Nat.{◌-◌}
use mathlib.Core.Path.{◌≡◌}
use Rattle.builder_rereading.specs.Own.{copied_step, own_row}
use Rattle.builder_rereading.proofs.inner.own_row.Given as goal

abbrev pub invariant-loop-g : goal.invariant-loop-g
invariant-loop-g l = own_row (l.n - l.g) (copied_step l.w l.n) l.n l.room l.elements l.e.0 l.g l.count l.t ≡ own_row l.n (copied_step l.w l.n) l.n l.room l.elements l.e.0 0 l.first l.initial.t
