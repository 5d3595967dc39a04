-- The four digits of the number spell it, so the four bytes stored are one cell.
use mathlib.Core.Path.{ap, ◌∙◌}
use mathlib.Core.List.{List}
use Prim.Native.Nat.{ℕ}
use Rattle.image_cells.specs.Cells.{cells}
use Rattle.image_cells.proofs.Laws.{put_stored, put_past, put_wide}
use Rattle.image_cells.proofs.inner.put.Goals as goal

pub returns-then-v-lt4294967296 : goal.returns-then-v-lt4294967296
returns-then-v-lt4294967296 c = ap (λ (l : List ℕ). cells l) c.store.ensures ∙ put_stored c.args.s.now c.args.i c.args.v c.if-i-s.true c.if-v-lt4294967296.true

pub returns-else-v-lt4294967296 : goal.returns-else-v-lt4294967296
returns-else-v-lt4294967296 c = put_wide (cells c.args.s.now) c.args.i c.args.v c.if-v-lt4294967296.false

pub returns-else-i-s : goal.returns-else-i-s
returns-else-i-s c = put_past c.args.s.now c.args.i c.args.v c.if-i-s.false
