-- The invariant: the letters that are left, from here, lead where the whole word leads. A turn is one step of `invert_from`.
use Prim.Native.Nat.{◌-◌}
use mathlib.Core.Path.{◌≡◌}
use Rattle.image_cells.specs.Cells.{cells}
use Rattle.build_checks_inverses.specs.Inverses.{invert_from}
use Rattle.image_check.proofs.inner.checking.invert.Given as goal

abbrev pub invariant-loop : goal.invariant-loop
invariant-loop l = invert_from (l.end - l.counter) (cells l.t) l.n l.at l.x ≡ invert_from l.end (cells l.t) l.n l.initial.at l.initial.x
