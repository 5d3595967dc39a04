-- Two bytes within the list spell its number; past the end it is 0.
use mathlib.Core.Path.{sym, ◌∙◌}
use Rattle.image_cells.proofs.Laws.{halves_at, halves_past}
use Rattle.image_cells.proofs.inner.half.Goals as goal

pub returns-then-i-s : goal.returns-then-i-s
returns-then-i-s c = c.spell_half.ensures ∙ sym (halves_at c.args.s.now c.args.i c.if-i-s.true)

pub returns-else-i-s : goal.returns-else-i-s
returns-else-i-s c = sym (halves_past c.args.s.now c.args.i c.if-i-s.false)
