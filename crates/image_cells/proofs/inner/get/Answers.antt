-- Four bytes within the list spell its cell; past the end it is 0.
use mathlib.Core.Path.{sym, ◌∙◌}
use Rattle.image_cells.proofs.Laws.{cells_at, cells_past}
use Rattle.image_cells.proofs.inner.get.Goals as goal

pub returns-then-i-s : goal.returns-then-i-s
returns-then-i-s c = c.spell.ensures ∙ sym (cells_at c.args.s.now c.args.i c.if-i-s.true)

pub returns-else-i-s : goal.returns-else-i-s
returns-else-i-s c = sym (cells_past c.args.s.now c.args.i c.if-i-s.false)
