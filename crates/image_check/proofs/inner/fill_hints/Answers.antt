use mathlib.Core.Path.{refl, ◌∙◌}
use borrow.Author.Rules.{rules}
use Rattle.build_checks_inverses.proofs.Hints.{no_hints, next_hint, hints_end}
use Rattle.image_check.proofs.inner.fill_hints.Goals as goal

pub loop-e-init : goal.loop-e-init
loop-e-init c = (refl, refl, no_hints _ _ _)

pub hint_at-h-requires : goal.hint_at-h-requires
hint_at-h-requires c = rw c.loop-e.invariant.0 c.requires

pub put_work-requires : goal.put_work-requires
put_work-requires c = rw c.loop-e.invariant.0 c.requires

pub loop-e-preserved : goal.loop-e-preserved
loop-e-preserved c = let hint = rw c.loop-e.invariant.1 at c.hint_at-h.ensures in (
  c.put_work.auto.b ∙ c.loop-e.invariant.0,
  c.put_work.ensures.0 ∙ c.loop-e.invariant.1,
  rw c.put_work.ensures.1 (next_hint c.loop-e.invariant.2 (search rules) (hint c.loop-e.invariant.2)),
)

pub shape_of-b : goal.shape_of-b
shape_of-b c = c.loop-e.invariant.0

pub returns : goal.returns
returns c = (c.loop-e.invariant.1, hints_end _ c.loop-e.invariant.2 c.loop-e-test.false)
