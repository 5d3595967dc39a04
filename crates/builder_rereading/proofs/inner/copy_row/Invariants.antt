-- The invariant: the successors that are left give what all of them give. A turn is one step of `copied_row`.
use Prim.Native.Nat.{◌-◌}
use mathlib.Core.Path.{◌≡◌}
use Rattle.builder_rereading.specs.Own.{copied_row}
use Rattle.builder_rereading.proofs.inner.copy_row.Given as goal

abbrev pub invariant-loop-g : goal.invariant-loop-g
invariant-loop-g l = copied_row (l.n - l.g) l.t l.n l.e.0 l.g l.w ≡ copied_row l.n l.t l.n l.e.0 0 l.initial.w
