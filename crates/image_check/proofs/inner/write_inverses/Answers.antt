-- The hints leave the table as it was.
use Prim.Native.Nat.{ℕ}
use mathlib.Core.Path.{ap, ◌∙◌}
use mathlib.Core.List.{List}
use Rattle.image_cells.specs.Cells.{cells}
use Rattle.build_checks_inverses.specs.Inverses.{fill_inverses}
use Rattle.image_check.proofs.inner.write_inverses.Goals as goal

pub fill_inverses-requires : goal.fill_inverses-requires
fill_inverses-requires c = (rw c.fill_hints.auto.b c.requires, rw c.fill_hints.ensures.0 c.fill_hints.ensures.1)

pub returns : goal.returns
returns c = c.fill_inverses.ensures
    ∙ ap (λ (t : List ℕ). fill_inverses c.args.count (cells t) c.args.n 0) c.fill_hints.ensures.0
