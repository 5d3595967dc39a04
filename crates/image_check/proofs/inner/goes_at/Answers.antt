-- The table before `at`, the work from there on.
use mathlib.Core.Path.{sym, ap, ◌∙◌}
use mathlib.Core.List.{List}
use Prim.Native.Nat.{ℕ}
use lib.ListN.{take}
use lib.Seq.{length-take-le}
use Rattle.image_cells.specs.Cells.{cells}
use Rattle.build_checks_group.specs.Lefts.{all_go}
use Rattle.image_check.proofs.Parts.{rest_lent}
use Rattle.image_check.proofs.inner.goes_at.Goals as goal

pub slice_bounds-all_go-end : goal.slice_bounds-all_go-end
slice_bounds-all_go-end c = sym (length-take-le c.args.at c.args.b.now c.requires)

pub returns : goal.returns
returns c = c.all_go.ensures ∙ ap (λ (z : List ℕ). all_go (cells (take c.args.at c.args.b.now)) (cells z) c.args.n c.args.count) (rest_lent c.args.b.now c.args.at c.requires)
