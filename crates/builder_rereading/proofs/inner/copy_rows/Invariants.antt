-- The invariant: the rows that are left give what all rows give. A turn is one step of `copied`.
use Prim.Native.Nat.{◌-◌}
use mathlib.Core.Path.{◌≡◌}
use Rattle.builder_rereading.specs.Own.{copied}
use Rattle.builder_rereading.proofs.inner.copy_rows.Given as goal

abbrev pub invariant-loop-e : goal.invariant-loop-e
invariant-loop-e l = copied (l.elements - l.e) l.t l.n l.e l.w ≡ copied l.elements l.t l.n 0 l.initial.w
