-- The table before `at`, the work from there on.
use mathlib.Core.Path.{sym, ap, ◌∙◌}
use mathlib.Core.List.{List}
use Prim.Native.Nat.{ℕ}
use lib.ListN.{take}
use lib.Seq.{length-take-le}
use Rattle.image_cells.specs.Cells.{cells}
use Rattle.build_checks_group.specs.Lefts.{left_of}
use Rattle.image_check.proofs.Parts.{rest_lent}
use Rattle.image_check.proofs.inner.left_at.Goals as goal

pub slice_bounds-left_of-end : goal.slice_bounds-left_of-end
slice_bounds-left_of-end c = sym (length-take-le c.args.at c.args.b.now c.requires)

pub returns : goal.returns
returns c = c.left_of.ensures ∙ ap (λ (z : List ℕ). left_of (cells (take c.args.at c.args.b.now)) c.args.n c.args.s.0 (cells z) c.args.x.0) (rest_lent c.args.b.now c.args.at c.requires)
